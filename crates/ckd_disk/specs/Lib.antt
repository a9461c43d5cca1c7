-- The definitions of ckd_disk: records and tracks, the commands of a disk, what it means as a device, and when it is
-- mounted.
pub mod Record
pub mod Track
pub mod Access
pub mod Command
pub mod Walk
pub mod Commands
pub mod Disk
pub mod DiskLaws
pub mod DiskSize
pub mod Mount
pub mod MountFacts
pub mod Refusals
pub mod Volume
pub mod VolumeFacts
