-- WHAT THE LAWS READ OF A DEVICE (profile).
use Rattle.std.specs.Prelude.{ℕ, List, []}
use Rattle.ckd_disk.specs.Track.{TrackState}
use Rattle.ckd_disk.specs.Disk.{DiskState}
use Rattle.any_device.specs.declared.device.AnyDevice.{AnyDevice}
use Rattle.any_device.specs.declared.device.AnyDevice.TheVariants.{Disk, Tape, Printer}

-- the tracks of a device with their records, in the order of their numbers, and the number of the track under its heads
pub record View (D : Type 0) : Type 0 where
  pub tracks : D → List TrackState
  pub position : D → ℕ

-- of a disk
abbrev pub disk_view : View DiskState
disk_view = record { tracks = λ d. d.tracks; position = λ d. d.track }

-- of the device of a unit: a tape and a printer have no track
abbrev pub unit_tracks : AnyDevice → List TrackState
unit_tracks (Disk d) = d.tracks
unit_tracks (Tape t) = []
unit_tracks (Printer p) = []

-- the track under the heads of a disk, and 0 of a tape and of a printer
abbrev pub unit_position : AnyDevice → ℕ
unit_position (Disk d) = d.track
unit_position (Tape t) = 0
unit_position (Printer p) = 0

-- the tracks and the position of the device of a unit
abbrev pub unit_view : View AnyDevice
unit_view = record { tracks = unit_tracks; position = unit_position }
