-- The lemmas of serial_order.
pub mod Uncontrolled
pub mod Programs
pub mod Values
pub mod Agrees
pub mod Turns
pub mod Quiet
pub mod Starting
pub mod Posting
pub mod Purged
pub mod InOrder
mod Worked
