-- The lemmas of aws_tape.
pub mod Buffers
pub mod Images
pub mod Chunks
pub mod Written
pub mod ReadBack
pub mod FirstChunk
pub mod Layouts
pub mod Kept
pub mod Untouched
pub mod Forgotten
