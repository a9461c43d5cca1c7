-- Lemmas on texts with the sizes of images, and on mounting images.
pub mod Lines
pub mod InTurn
