-- What a client counts, elements that stand at the places of their numbers, what tasks did, what is dealt out to
-- workers, and the places of calls.
pub mod Counting
pub mod Placing
pub mod Running
pub mod Sharing
pub mod Turns
