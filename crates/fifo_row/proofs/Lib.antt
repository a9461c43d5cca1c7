-- The lemmas of fifo_row.
pub mod Filters
pub mod Places
pub mod Fitting
pub mod Flowing
pub mod Sending
pub mod Taking
pub mod Seating
pub mod Meeting
