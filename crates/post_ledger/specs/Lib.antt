-- The definitions of post_ledger: what the end of a run works on, what it leaves, and what its report says.
pub mod Rows
pub mod Parting
pub mod Audit
pub mod Work
pub mod Report
pub mod Left
