-- The definitions of disk_laws: what the laws read of a device, and the laws of channel programs and of requests.
pub mod Views
pub mod Laws
