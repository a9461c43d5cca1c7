-- The lemmas of unit_history: the events, and that a replay keeps to its trace.
pub mod ReplayBefore
pub mod Begun
pub mod DcbLaws
pub mod DoomCauses
pub mod Entries
mod MovedLaws
pub mod ReplayNext
pub mod OrderlyLaws
pub mod TraceStateLaws
pub mod Runs
pub mod Steps
pub mod TurnLaws
