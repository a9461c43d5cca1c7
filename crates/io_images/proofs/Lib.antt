-- The lemmas of io_images.
pub mod Bits
pub mod Listed
pub mod ReadsBack
