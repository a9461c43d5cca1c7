-- The lemmas of excp_system.
pub mod Places
pub mod Fans
pub mod Deals
pub mod Hands
pub mod Makes
pub mod Balances
pub mod Begins
pub mod Logs
pub mod Units
pub mod Rests
