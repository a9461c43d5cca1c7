-- The lemmas of post_ledger.
pub mod Pairs
pub mod Joins
pub mod Parts
pub mod Works
pub mod Closing
pub mod Audits
pub mod Endings
