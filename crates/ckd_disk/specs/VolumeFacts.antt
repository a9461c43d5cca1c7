-- What the walk over the records of a track says, and what mounting a volume answers.
use Rattle.std.specs.Prelude.{◌≡◌, ℕ, true, ◌≤◌, List, length, take, Result, Ok, Err}
use Rattle.device_port.specs.declared.faults.Fault.{Fault}
use Rattle.device_port.specs.Faults.{is_script}
use Rattle.device_port.specs.Packed.{HoldsItems, items_at}
use Rattle.ckd_disk.specs.declared.volume.UnmountedVolume.{UnmountedVolume}
use Rattle.ckd_disk.specs.Record.{ckd}
use Rattle.ckd_disk.specs.Disk.{DiskState}
use Rattle.ckd_disk.specs.Volume.{VolumeState, IsTrack, is_whole, mounted_volume, Unmounts}

-- bytes begin with `count` records that take `used` of them, and then the end mark
pub record IsExtent (size : ℕ) (bytes : List ℕ) (used count : ℕ) : Type 0 where
  pub track : IsTrack size bytes (items_at ckd count (take used bytes))
  pub held : HoldsItems ckd (take used bytes) used count
  pub short : used ≤ size
  pub within : used ≤ length bytes

-- WHAT MOUNTING A VOLUME ANSWERS
abbrev pub MountsVolume : VolumeState → List Fault → Result DiskState UnmountedVolume → Type 0
MountsVolume v faults (Ok disk) = (is_whole v ≡ true) × (is_script faults ≡ true) × (disk ≡ mounted_volume v faults)
MountsVolume v faults (Err refused) = (refused.volume ≡ v) × Unmounts v faults refused.reason
