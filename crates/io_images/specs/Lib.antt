-- The definitions of io_images: bits, codes, the file mask, and the images of control blocks.
pub mod Bits
pub mod Codes
pub mod FileMask
pub mod Images
pub mod Written
