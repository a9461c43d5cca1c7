-- The definitions of unit_queue: a wait queue as a list, and what a sweep takes from it.
pub mod Queue
pub mod Selection
