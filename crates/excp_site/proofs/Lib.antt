-- The lemmas of excp_site.
pub mod Refused
pub mod Ranges
pub mod Resting
pub mod Flagged
pub mod Standing
pub mod Serving
pub mod Back
pub mod Channels
pub mod Places
