-- Lemmas on loading images, and on the text of a printer.
pub mod Loads
pub mod Papers
