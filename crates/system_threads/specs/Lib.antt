-- What a client counts, why a request is not issued, what tasks do, who serves what, and how turns without memory are
-- counted.
pub mod Counting
pub mod Issuing
pub mod Running
pub mod Shares
pub mod Turns
