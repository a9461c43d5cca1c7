-- Lists that are changed at a place, a line that is put together, and what is left of a list.
pub mod Blank
pub mod Changes
pub mod Left
pub mod Putting
