-- The definitions of unit_world: the state that contracts see of a site and of each unit, the steps of the worlds that a
-- call makes, and what each call does.
pub mod PostLists
pub mod Parts
pub mod Sending
pub mod States
pub mod Sites
pub mod Calls
