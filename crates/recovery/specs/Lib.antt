-- The definitions of recovery: the verdict on a program that has ended.
pub mod Verdict
