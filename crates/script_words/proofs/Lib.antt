-- Lemmas on lines, words and forms, on words at the front of a text, and on words compared byte by byte.
pub mod Joining
pub mod Fronts
pub mod Numbers
pub mod Scanning
pub mod Scans
pub mod Spelling
pub mod Table
