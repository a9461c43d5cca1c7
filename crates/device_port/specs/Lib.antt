-- The definitions of device_port: the meaning of a device and its laws, how bytes move, faults, what all devices have
-- in common, and a toy device.
pub mod Answers
pub mod Common
pub mod Faults
pub mod FixedSize
pub mod Meaning
pub mod MeaningLaws
pub mod Moves
pub mod MovesLaws
pub mod Packed
pub mod Sense
pub mod Toy
pub mod ToyLaws
