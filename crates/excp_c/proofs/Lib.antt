mod Fields
mod LooseValues
pub mod Reasons
mod SlotValues
