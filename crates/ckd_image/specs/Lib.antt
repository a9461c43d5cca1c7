-- The definitions of ckd_image: the header, the bytes of an image, and what reading one answers.
pub mod Header
pub mod Image
pub mod Loading
pub mod Saving
