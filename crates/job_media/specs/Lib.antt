-- The definitions of job_media: the sizes of images in the lines of units, and how images are mounted as these lines say.
pub mod Sizes
pub mod Mounting
