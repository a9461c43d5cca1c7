-- What the events of a unit say, the device, storage and program at each position of a replay, and the positions and the bytes of
-- commands.
pub mod Causes
pub mod Commands
pub mod Dcbs
pub mod Events
pub mod MovedData
pub mod Orderly
pub mod TraceStates
pub mod Places
pub mod Replayed
pub mod Ties
