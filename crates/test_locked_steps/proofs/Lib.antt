-- The tasks of a system stay at their places.
pub mod Placed
