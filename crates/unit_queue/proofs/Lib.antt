-- The lemmas of unit_queue.
pub mod Sweeps
pub mod Copies
