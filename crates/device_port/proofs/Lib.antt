-- The lemmas of device_port.
pub mod FaultLaws
pub mod Gathering
pub mod Items
