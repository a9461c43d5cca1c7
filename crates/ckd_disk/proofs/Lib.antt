-- The lemmas of ckd_disk.
pub mod Packing
pub mod Tracks
pub mod Opening
pub mod Volumes
pub mod Refilled
pub mod Onto
mod Worked
