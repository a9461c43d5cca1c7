-- What saving a disk to an image writes.
use Rattle.std.specs.Prelude.{◌≡◌, ◌<◌, ℕ, ◌+◌, ◌-◌, Bool, ◌&&◌, nat_lt, true, List, ◌∷◌, ◌++◌, length, Option, Ok, if◌then◌else◌}
use Rattle.std.specs.Io.KnownBytes.{Keeps}
use Rattle.std.specs.Str.{bytes_eq}
use Rattle.device_port.specs.Moves.{padded}
use Rattle.device_port.specs.Packed.{image_of}
use Rattle.ckd_disk.specs.Record.{ckd}
use Rattle.ckd_disk.specs.Track.{TrackState}
use Rattle.ckd_disk.specs.Disk.{DiskState, track_of}
use Rattle.ckd_disk.specs.Volume.{VolumeState, is_whole, end_mark}
use Rattle.ckd_image.specs.declared.format.Format.{Format}
use Rattle.ckd_image.specs.declared.fault.DiskSaveError.{DiskSaveError}
use Rattle.ckd_image.specs.declared.fault.DiskSaveError.TheVariants as save
use Rattle.ckd_image.specs.Header.{format_of}
use Rattle.ckd_image.specs.Image.{KeptTrackState, KeptState, plain, kept_at, tracks_file, IsImageBegun, IsImage}

-- the format of an image of a disk
abbrev pub format_on : DiskState → Format
format_on disk = record { heads = disk.heads; bytes = (track_of disk.tracks 0).size + 14 }

-- a track with these packed records
abbrev pub track_bytes_with : ℕ → ℕ → List ℕ → List ℕ → List ℕ → List ℕ
track_bytes_with bytes flag address records tail =
    flag ∷ (address ++ (records ++ (end_mark ++ padded (bytes - 13 - length records) tail)))

-- whether these are the packed records of a track of the mounted disk
abbrev pub is_as_mounted : List TrackState → List ℕ → ℕ → Bool
is_as_mounted mounted records number = nat_lt number (length mounted) && bytes_eq (image_of ckd (track_of mounted number).records) records

-- WHAT A TRACK HAS BESIDE ITS RECORDS: what was kept, as long as these are the records of the mounted disk
abbrev pub kept_with : KeptState → List TrackState → List ℕ → ℕ → KeptTrackState
kept_with kept mounted records number = if is_as_mounted mounted records number then kept_at kept.tracks number else plain

abbrev pub kept_now : KeptState → List TrackState → List TrackState → ℕ → KeptTrackState
kept_now kept mounted tracks number = kept_with kept mounted (image_of ckd (track_of tracks number).records) number

-- THE IMAGE OF A DISK
abbrev pub image_on : KeptState → DiskState → DiskState → List ℕ
image_on kept mounted disk =
    kept.header ++ tracks_file (format_on disk) (kept_now kept mounted.tracks disk.tracks) 0 disk.tracks

-- WHAT IS KEPT OF A DISK AS IT IS: what each of its tracks has beside its records now, so that its image stays the same if this is
-- the mounted disk from here on
pub record ForgetsWritten (old : KeptState) (mounted now : DiskState) (new : KeptState) : Type 0 where
  pub header : new.header ≡ old.header
  pub count : length new.tracks ≡ length old.tracks
  pub each : (number : ℕ) → number < length now.tracks → kept_at new.tracks number ≡ kept_now old mounted.tracks now.tracks number
  pub image : image_on new now now ≡ image_on old mounted now

-- the volume that a disk is now
abbrev pub volume_on : DiskState → VolumeState
volume_on disk = record { heads = disk.heads; track_bytes = (track_of disk.tracks 0).size; tracks = disk.tracks }

-- WHY A DISK IS NOT SAVED: what would be written is no image of it, and nothing is written if the header is of another disk;
-- or a write failed or memory ran out. A model is asked for by a new image alone
abbrev pub RefusesSaving : KeptState → DiskState → DiskState → Option (List ℕ) → Option (List ℕ) → DiskSaveError → Type 0
RefusesSaving kept mounted disk old new (save.NoModel heads track_bytes) = ⊥
RefusesSaving kept mounted disk old new save.BadDisk =
    (IsImage (image_on kept mounted disk) (volume_on disk) → ⊥) × ((format_of kept.header ≡ Ok (format_on disk) → ⊥) → Keeps old new)
RefusesSaving kept mounted disk old new (save.NotWritten kind) = Unit {0}
RefusesSaving kept mounted disk old new save.NoMemory = Unit {0}

-- a disk has the tracks of a volume from an image, as they were read
pub record IsAsRead (f : Format) (kept : KeptState) (v : VolumeState) (before disk : DiskState) : Type 0 where
  pub begun : IsImageBegun f kept v
  pub whole : is_whole v ≡ true
  pub heads : disk.heads ≡ v.heads
  pub mounted : before.tracks ≡ v.tracks
  pub tracks : disk.tracks ≡ v.tracks
