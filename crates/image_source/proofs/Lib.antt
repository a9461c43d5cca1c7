-- The lemmas of image_source.
pub mod Sources
