-- The definitions of medium_image: the sizes of images, how images are loaded and saved, and the text of a printer.
pub mod Images
pub mod Loading
pub mod Paper
pub mod Saving
