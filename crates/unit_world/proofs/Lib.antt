-- The lemmas of unit_world.
pub mod Rings
pub mod Spares
pub mod Moves
pub mod Steps
pub mod States
pub mod Sites
pub mod Sides
pub mod Deliveries
mod Renewals
pub mod Sends
pub mod Calls
