-- The definitions of tape_unit: items and reels, the commands of a tape, what it means as a device, when it is mounted,
-- and how it is recorded item by item.
pub mod Item
pub mod Reel
pub mod Command
pub mod Tape
pub mod TapeLaws
pub mod TapeSize
pub mod Mount
pub mod Recording
