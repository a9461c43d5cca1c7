-- The mounted devices of a script's units, the books with its DCBs open, and its requests; or the first fault of these.
pub mod Books
pub mod Devices
pub mod Mounting
pub mod Openings
pub mod Outcomes
pub mod Requests
pub mod Runs
