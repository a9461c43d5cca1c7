-- The definitions of aws_tape: chunks, what the bytes of an image say, and the image of a tape.
pub mod Chunk
pub mod Layout
pub mod Steps
pub mod Between
pub mod Reading
pub mod Stepping
pub mod Writing
