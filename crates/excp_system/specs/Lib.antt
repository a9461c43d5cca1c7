-- The definitions of excp_system: whose row each is, what a lock and a task keep, the notices of a pending status,
-- the units at rest, and the calls of tasks and units.
pub mod Sites
pub mod Controls
pub mod Fans
pub mod States
pub mod Begun
pub mod Notices
pub mod Rests
pub mod Calls
pub mod RowCalls
pub mod Opening
pub mod Drained
pub mod Flows
