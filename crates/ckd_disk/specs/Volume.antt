-- A disk that is recorded track by track, as from an image of a disk, and mounted then.
use Rattle.std.specs.Prelude.{◌≡◌, ℕ, ◌+◌, ◌/◌, ◌%◌, ◌<◌, ◌≤◌, Bool, true, false, nat_le, nat_lt, nat_eq, ◌&&◌, min}
use Rattle.std.specs.Prelude.{List, [], ◌∷◌, ◌++◌, length, Result, Ok, Err}
use Rattle.std.specs.List.{AllByRecursion, starts_with}
use Rattle.device_port.specs.declared.device.MountError.{MountError}
use Rattle.device_port.specs.declared.device.MountError.TheVariants.{BadGeometry, BadMedium, NoMemory}
use Rattle.device_port.specs.declared.faults.Fault.{Fault}
use Rattle.device_port.specs.Faults.{is_script}
use Rattle.device_port.specs.Packed.{image_of}
use Rattle.ckd_disk.specs.declared.volume.VolumeError.{VolumeError}
use Rattle.ckd_disk.specs.declared.volume.VolumeError.TheVariants as volume
use Rattle.ckd_disk.specs.Record.{Record, FitsCountArea, size_at, ckd}
use Rattle.ckd_disk.specs.Track.{TrackState, bytes_of}
use Rattle.ckd_disk.specs.Disk.{DiskState, at_start}

-- A VOLUME: how many tracks a cylinder has, how many bytes a track has, and the tracks so far
pub record VolumeState : Type 0 where
  pub heads : ℕ
  pub track_bytes : ℕ
  pub tracks : List TrackState

-- a number of heads that a volume may have
abbrev pub is_heads : ℕ → Bool
is_heads heads = nat_le 1 heads && nat_le heads 65_535

-- a track size that a volume may have
abbrev pub is_track_bytes : ℕ → Bool
is_track_bytes bytes = nat_le 16 bytes && nat_le bytes 65_535

-- WHAT BEGINNING ANSWERS: a volume without tracks
abbrev pub BeginsVolume : ℕ → ℕ → Result VolumeState VolumeError → Type 0
BeginsVolume heads bytes (Ok v) =
    (is_heads heads ≡ true) × (is_track_bytes bytes ≡ true) × (v ≡ record { heads = heads; track_bytes = bytes; tracks = [] })
BeginsVolume heads bytes (Err volume.BadHeads) = is_heads heads ≡ false
BeginsVolume heads bytes (Err volume.BadTrackBytes) = (is_heads heads ≡ true) × (is_track_bytes bytes ≡ false)
BeginsVolume heads bytes (Err volume.TooManyTracks) = ⊥
BeginsVolume heads bytes (Err volume.NoRecord) = ⊥
BeginsVolume heads bytes (Err (volume.NoEndMark at)) = ⊥
BeginsVolume heads bytes (Err (volume.PastTrack at)) = ⊥
BeginsVolume heads bytes (Err volume.NoMemory) = ⊥

-- THE END MARK of a track: a count area of eight bytes FF. No record that fits a track has it
abbrev pub end_mark : List ℕ
end_mark = 0xFF ∷ 0xFF ∷ 0xFF ∷ 0xFF ∷ 0xFF ∷ 0xFF ∷ 0xFF ∷ 0xFF ∷ []

-- the bytes begin with the end mark
abbrev pub is_end : List ℕ → Bool
is_end bytes = starts_with nat_eq bytes end_mark

-- how many bytes are left for records: the bytes of the track, as far as they are given
abbrev pub record_room : ℕ → List ℕ → ℕ
record_room size bytes = min size (length bytes)

-- THE RECORDS OF A TRACK: bytes begin with these records, packed one after the other, and then the end mark
pub record IsTrack (size : ℕ) (bytes : List ℕ) (records : List Record) : Type 0 where
  pub fits : AllByRecursion FitsCountArea records
  pub some : 0 < length records
  pub within : bytes_of records ≤ record_room size bytes
  pub rest : List ℕ
  pub parts : bytes ≡ image_of ckd records ++ (end_mark ++ rest)

-- bytes begin with some records that take `at` bytes, and what follows them is not the end mark
pub record GoesOn (size : ℕ) (bytes : List ℕ) (at : ℕ) : Type 0 where
  pub records : List Record
  pub rest : List ℕ
  pub fits : AllByRecursion FitsCountArea records
  pub parts : bytes ≡ image_of ckd records ++ rest
  pub taken : at ≡ bytes_of records
  pub within : at ≤ record_room size bytes
  pub unended : is_end rest ≡ false

-- WHY BYTES ARE NO TRACK
abbrev pub Stops : ℕ → List ℕ → VolumeError → Type 0
Stops size bytes volume.BadHeads = ⊥
Stops size bytes volume.BadTrackBytes = ⊥
Stops size bytes volume.TooManyTracks = ⊥
Stops size bytes volume.NoRecord = is_end bytes ≡ true
Stops size bytes (volume.NoEndMark at) = GoesOn size bytes at × (record_room size bytes < at + 8)
Stops size bytes (volume.PastTrack at) =
    (g : GoesOn size bytes at) × (at + 8 ≤ record_room size bytes) × (record_room size bytes < at + size_at g.rest)
Stops size bytes volume.NoMemory = ⊥

-- the volume with one more track
abbrev pub with_track : VolumeState → List Record → VolumeState
with_track v records = record v { tracks = v.tracks ++ record { size = v.track_bytes; records = records } ∷ [] }

-- the track that was recorded, which took `used` bytes
pub record Recorded (before : VolumeState) (bytes : List ℕ) (after : VolumeState) (used : ℕ) : Type 0 where
  pub records : List Record
  pub track : IsTrack before.track_bytes bytes records
  pub taken : used ≡ bytes_of records
  pub volume : after ≡ with_track before records

-- the volume may have another track
abbrev pub has_room : VolumeState → Bool
has_room v = nat_le (length v.tracks + 1) 65_535

-- WHAT RECORDING A TRACK ANSWERS, the first reason that holds
abbrev pub RecordsTrack : VolumeState → List ℕ → VolumeState → Result ℕ VolumeError → Type 0
RecordsTrack before bytes after (Ok used) = (has_room before ≡ true) × Recorded before bytes after used
RecordsTrack before bytes after (Err volume.TooManyTracks) = has_room before ≡ false
RecordsTrack before bytes after (Err volume.NoMemory) =
    (has_room before ≡ true) × ((records : List Record) × IsTrack before.track_bytes bytes records)
RecordsTrack before bytes after (Err error) = (has_room before ≡ true) × Stops before.track_bytes bytes error

-- the volume has whole cylinders, at least one
abbrev pub is_whole : VolumeState → Bool
is_whole v = nat_lt 0 (length v.tracks) && nat_eq (length v.tracks % v.heads) 0

-- THE OPENING STATE: the heads at the index point of track 0, file mask 00
abbrev pub mounted_volume : VolumeState → List Fault → DiskState
mounted_volume v faults = record {
  cylinders = length v.tracks / v.heads;
  heads = v.heads;
  tracks = v.tracks;
  track = 0;
  access = at_start 0;
  ordinals = record { script = faults; done = 0 };
}

-- the volume that is handed back, and why it is not mounted
abbrev pub Unmounts : VolumeState → List Fault → MountError → Type 0
Unmounts v faults BadGeometry = is_whole v ≡ false
Unmounts v faults BadMedium = (is_whole v ≡ true) × (is_script faults ≡ false)
Unmounts v faults NoMemory = (is_whole v ≡ true) × (is_script faults ≡ true)

-- what the code keeps true of its volume
pub record IsVolume (v : VolumeState) : Type 0 where
  pub heads : 1 ≤ v.heads
  pub least : 16 ≤ v.track_bytes
  pub most : v.track_bytes ≤ 65_535
  pub few : length v.tracks ≤ 65_535
  pub filled : AllByRecursion (λ t. 0 < length t.records) v.tracks
