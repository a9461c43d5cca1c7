-- Text: lines, words, and the forms of words.
pub mod Forms
pub mod Front
pub mod Scan
pub mod Text
