-- What the device of a unit means, the laws that it keeps, and its size.
pub mod Devices
pub mod AnySize
