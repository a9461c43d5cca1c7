-- The definitions of image_source: what a buffer has that was filled.
pub mod Filled
