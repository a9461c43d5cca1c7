-- The definitions of io_area: storage as a map from addresses to bytes, and which areas are refused.
pub mod AreaFault
pub mod Storage
