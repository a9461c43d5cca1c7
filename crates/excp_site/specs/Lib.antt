-- The definitions of excp_site: what contracts see of a site, what its calls do, and when they are refused.
pub mod Numbers
pub mod Refusals
pub mod Extents
pub mod Media
pub mod Sites
pub mod Mounting
pub mod Serving
pub mod Checkpoints
pub mod Looks
pub mod Imaging
pub mod Reasons
pub mod Channels
