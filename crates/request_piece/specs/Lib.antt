-- The definitions of request_piece: requests, where their control blocks are, what they are posted with, and the scope
-- of a purge.
pub mod Final
pub mod Places
pub mod PostedState
pub mod Refusals
pub mod Requests
pub mod Scope
