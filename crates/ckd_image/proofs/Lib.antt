-- The lemmas of ckd_image.
pub mod Files
pub mod Tracks
pub mod Reading
pub mod Writing
pub mod Records
pub mod Unique
pub mod Forgotten
