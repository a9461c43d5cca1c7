-- What reading an image answers.
use Rattle.std.specs.Prelude.{◌≡◌, ℕ, ◌+◌, ◌<◌, ◌≤◌, ◌⊎◌, Bool, true, false, nat_eq, List, [], ◌∷◌, ◌++◌, length, take, drop, replicate, Option, Result, Ok, Err}
use Rattle.std.specs.Cmp.Lexicographic.{pointwise}
use Rattle.std.specs.Io.KnownBytes.{Consumes, IsAtEnd}
use Rattle.std.specs.List.{AllByRecursion}
use Rattle.ckd_disk.specs.declared.volume.VolumeError.{VolumeError}
use Rattle.ckd_disk.specs.declared.volume.VolumeError.TheVariants as volume
use Rattle.ckd_disk.specs.Record.{Record}
use Rattle.ckd_disk.specs.Volume.{VolumeState, Stops, with_track, has_room, is_whole}
use Rattle.ckd_image.specs.declared.fault.CkdError.{CkdError}
use Rattle.ckd_image.specs.declared.fault.CkdFault.{CkdFault}
use Rattle.ckd_image.specs.declared.fault.CkdFault.TheVariants as fault
use Rattle.ckd_image.specs.declared.format.Format.{Format}
use Rattle.ckd_image.specs.declared.kept.DiskImage.{DiskImage}
use Rattle.ckd_image.specs.Header.{format_of}
use Rattle.ckd_image.specs.Image.{KeptTrackState, KeptState, home_of, track_file, file_of, IsImageBegun, IsRecorded, IsWholeImage}

-- a rule of the format, and not a failed read or out of memory
pub record IsFault (e : CkdFault) : Type 0 where
  pub readable : e ≡ fault.Unreadable → ⊥
  pub memory : e ≡ fault.NoMemory → ⊥

-- AN IMAGE WAS READ: all bytes of the reader are its header and whole cylinders, at least one
pub record Loaded (old new : Option (List ℕ)) (image : DiskImage) : Type 0 where
  pub format : Format
  pub valid : IsWholeImage format image.kept image.volume
  pub read : Consumes old new (file_of format image.kept image.volume.tracks)
  pub end : IsAtEnd new

-- WHAT READING AN IMAGE OF A VOLUME ANSWERS: this volume, unless a read fails or memory runs out
abbrev pub LoadsVolume : VolumeState → Result DiskImage CkdError → Type 0
LoadsVolume v (Ok image) = image.volume ≡ v
LoadsVolume v (Err e) = (e.fault ≡ fault.Unreadable) ⊎ (e.fault ≡ fault.NoMemory)

-- bytes begin with a header and whole tracks that break no rule; `rest` follows them, at `offset`
pub record StartsWell (bytes : List ℕ) (offset : ℕ) : Type 0 where
  pub format : Format
  pub kept : KeptState
  pub volume : VolumeState
  pub rest : List ℕ
  pub begun : IsImageBegun format kept volume
  pub parts : bytes ≡ file_of format kept volume.tracks ++ rest
  pub place : offset ≡ length (file_of format kept volume.tracks)

abbrev pub is_home : ℕ → ℕ → List ℕ → Bool
is_home heads number track = pointwise nat_eq (take 4 (drop 1 track)) (home_of heads number)

-- WHY A TRACK IS REFUSED: the first rule that its bytes break, and where in it
abbrev pub InRecords : Format → VolumeState → List ℕ → Type 0
InRecords f v track = (has_room v ≡ true) × (is_home f.heads (length v.tracks) track ≡ true)

abbrev pub FailsTrack : Format → VolumeState → List ℕ → CkdFault → ℕ → Type 0
FailsTrack f v track fault.TooManyTracks at = (has_room v ≡ false) × (at ≡ 0)
FailsTrack f v track fault.BadHomeAddress at = (has_room v ≡ true) × (is_home f.heads (length v.tracks) track ≡ false) × (at ≡ 0)
FailsTrack f v track fault.NoRecord at = InRecords f v track × Stops v.track_bytes (drop 5 track) volume.NoRecord × (at ≡ 5)
FailsTrack f v track fault.NoEndMark at =
    InRecords f v track × ((k : ℕ) × Stops v.track_bytes (drop 5 track) (volume.NoEndMark k) × (at ≡ 5 + k))
FailsTrack f v track fault.PastTrack at =
    InRecords f v track × ((k : ℕ) × Stops v.track_bytes (drop 5 track) (volume.PastTrack k) × (at ≡ 5 + k))
FailsTrack f v track fault.NoMemory at = Unit {0}
FailsTrack f v track e at = ⊥

-- the header breaks a rule
pub record FailsInHeader (bytes : List ℕ) (e : CkdError) : Type 0 where
  pub long : length bytes ≡ 512
  pub fails : format_of bytes ≡ Err e

-- the header is cut short
pub record FailsBeforeTracks (new : Option (List ℕ)) (bytes : List ℕ) (e : CkdError) : Type 0 where
  pub fault : e.fault ≡ fault.HeaderCutShort
  pub short : length bytes < 512
  pub offset : e.offset ≡ length bytes
  pub end : IsAtEnd new

-- a track breaks a rule
pub record FailsInTrack (bytes : List ℕ) (e : CkdError) : Type 0 where
  pub start : ℕ
  pub at : ℕ
  pub well : StartsWell bytes start
  pub fails : FailsTrack well.format well.volume well.rest e.fault at
  pub long : length well.rest ≡ well.format.bytes
  pub offset : e.offset ≡ start + at

-- the tracks are cut short, inside a track or a cylinder
pub record FailsAtEnd (new : Option (List ℕ)) (bytes : List ℕ) (e : CkdError) : Type 0 where
  pub start : ℕ
  pub well : StartsWell bytes start
  pub fault : e.fault ≡ fault.CutShort
  pub short : length well.rest < well.format.bytes
  pub cut : (0 < length well.rest) ⊎ (is_whole well.volume ≡ false)
  pub offset : e.offset ≡ length bytes
  pub end : IsAtEnd new

-- WHY NO IMAGE WAS READ
abbrev pub FailsIn : Option (List ℕ) → List ℕ → CkdError → Type 0
FailsIn new bytes e = FailsBeforeTracks new bytes e ⊎ (FailsInHeader bytes e ⊎ (FailsInTrack bytes e ⊎ FailsAtEnd new bytes e))

abbrev pub FailsImage : Option (List ℕ) → Option (List ℕ) → CkdError → Type 0
FailsImage old new e = (bytes : List ℕ) × Consumes old new bytes × FailsIn new bytes e

-- ---- a track at a time

-- a track was read after those there
pub record TakesTrack (f : Format) (track : List ℕ) (before after : VolumeState) (kept_before kept_after : List KeptTrackState) : Type 0 where
  pub kept : KeptTrackState
  pub records : List Record
  pub file : track ≡ track_file f (length before.tracks) kept records
  pub recorded : IsRecorded before.track_bytes (record { size = before.track_bytes; records = records })
  pub volume : after ≡ with_track before records
  pub tracks : kept_after ≡ kept_before ++ kept ∷ []
  pub few : length after.tracks ≤ 65_535

-- the fault of a track whose records are refused
abbrev pub track_fault : VolumeError → CkdError
track_fault volume.BadHeads = record { fault = fault.BadHeads; offset = 0 }
track_fault volume.BadTrackBytes = record { fault = fault.BadTrackBytes; offset = 0 }
track_fault volume.TooManyTracks = record { fault = fault.TooManyTracks; offset = 0 }
track_fault volume.NoRecord = record { fault = fault.NoRecord; offset = 5 }
track_fault (volume.NoEndMark at) = record { fault = fault.NoEndMark; offset = 5 + at }
track_fault (volume.PastTrack at) = record { fault = fault.PastTrack; offset = 5 + at }
track_fault volume.NoMemory = record { fault = fault.NoMemory; offset = 0 }

-- what a loader keeps true
pub record IsLoader (f : Format) (v : VolumeState) (kept : List KeptTrackState) (zeros : List ℕ) : Type 0 where
  pub some : 1 ≤ f.heads
  pub heads : v.heads ≡ f.heads
  pub bytes : v.track_bytes + 14 ≡ f.bytes
  pub large : f.bytes ≤ 65_549
  pub each : length kept ≡ length v.tracks
  pub tracks : AllByRecursion (IsRecorded v.track_bytes) v.tracks
  pub blank : zeros ≡ replicate f.bytes 0

-- the tracks after a header were read to the end
pub record ReadsTracks (header : List ℕ) (old new : Option (List ℕ)) (image : DiskImage) : Type 0 where
  pub format : Format
  pub valid : IsWholeImage format image.kept image.volume
  pub read : (bytes : List ℕ) × Consumes old new bytes × (header ++ bytes ≡ file_of format image.kept image.volume.tracks)
  pub end : IsAtEnd new

-- why they were not
abbrev pub FailsAfter : List ℕ → Option (List ℕ) → Option (List ℕ) → CkdError → Type 0
FailsAfter header old new e = (bytes : List ℕ) × Consumes old new bytes × FailsIn new (header ++ bytes) e

-- what follows the last track: nothing, after whole cylinders
abbrev pub EndsImage : VolumeState → KeptState → ℕ → ℕ → Result DiskImage CkdError → Type 0
EndsImage v kept size count (Ok image) = (count ≡ 0) × (is_whole v ≡ true) × (image.volume ≡ v) × (image.kept ≡ kept)
EndsImage v kept size count (Err e) = ((0 < count) ⊎ (is_whole v ≡ false)) × (e ≡ record { fault = fault.CutShort; offset = size })
