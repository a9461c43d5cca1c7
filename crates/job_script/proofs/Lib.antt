-- Lemmas on bytes that are read piece after piece, on joined words, on one changed unit, on lines at the front of a text,
-- on lines one after the other, and on the commands of a task.
pub mod Changing
pub mod Consuming
pub mod Front
pub mod Grouping
pub mod Joining
pub mod Parsing
