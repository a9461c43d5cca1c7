-- The lemmas of disk_laws.
pub mod Steps
pub mod Commands
pub mod Programs
pub mod Sights
pub mod Attempts
pub mod Requests
mod Worked
