-- The lemmas of tape_unit.
pub mod Spelled
pub mod Reels
pub mod Marks
pub mod Loading
pub mod Tapes
pub mod Recordings
mod Worked
