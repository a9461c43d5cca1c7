-- The slots of requests, and the text of posts.
pub mod Digits
pub mod Lines
pub mod Slots
pub mod Writing
