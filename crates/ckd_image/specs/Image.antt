-- The bytes of an image of a disk (CKD_P370): a header, and then the tracks.
use Rattle.std.specs.Prelude.{◌≡◌, ℕ, ◌+◌, ◌-◌, ◌/◌, ◌%◌, ◌<◌, ◌≤◌, true, List, [], ◌∷◌, ◌++◌, length, slice_index_or, Ok}
use Rattle.std.specs.Int.{w16, to_be_bytes}
use Rattle.std.specs.List.{AllByRecursion}
use Rattle.device_port.specs.Moves.{padded}
use Rattle.device_port.specs.Packed.{image_of}
use Rattle.ckd_disk.specs.Record.{Record, FitsCountArea, ckd}
use Rattle.ckd_disk.specs.Track.{TrackState, bytes_of}
use Rattle.ckd_disk.specs.Volume.{VolumeState, end_mark, is_whole}
use Rattle.ckd_image.specs.declared.format.Format.{Format}
use Rattle.ckd_image.specs.Header.{format_of}

-- what a track in an image has beside its records: the flag byte of its home address, and the bytes after its end mark,
-- which are zeros where none are given
pub record KeptTrackState : Type 0 where
  pub flag : ℕ
  pub tail : List ℕ

-- what an image has beside the records of its tracks
pub record KeptState : Type 0 where
  pub header : List ℕ
  pub tracks : List KeptTrackState

-- a track with flag 00 and zeros
abbrev pub plain : KeptTrackState
plain = record { flag = 0; tail = [] }

abbrev pub kept_at : List KeptTrackState → ℕ → KeptTrackState
kept_at kept number = slice_index_or kept number plain

-- CC and HH of a track, by its number
abbrev pub home_of : ℕ → ℕ → List ℕ
home_of heads number = to_be_bytes w16 (number / heads) ++ to_be_bytes w16 (number % heads)

-- A TRACK: its home address of flag, CC and HH, its records, the end mark, and unused bytes
abbrev pub after_home : ℕ → KeptTrackState → List Record → List ℕ
after_home bytes kept records = image_of ckd records ++ (end_mark ++ padded (bytes - 13 - bytes_of records) kept.tail)

abbrev pub track_file : Format → ℕ → KeptTrackState → List Record → List ℕ
track_file f number kept records = kept.flag ∷ (home_of f.heads number ++ after_home f.bytes kept records)

-- the tracks from `number` on
unfoldable pub tracks_file : Format → (ℕ → KeptTrackState) → ℕ → List TrackState → List ℕ
tracks_file f kept number [] = []
tracks_file f kept number (t ∷ tracks) = track_file f number (kept number) t.records ++ tracks_file f kept (number + 1) tracks

-- THE IMAGE
abbrev pub file_of : Format → KeptState → List TrackState → List ℕ
file_of f kept tracks = kept.header ++ tracks_file f (kept_at kept.tracks) 0 tracks

-- a track of `size` bytes holds such records
pub record IsRecorded (bytes : ℕ) (t : TrackState) : Type 0 where
  pub size : t.size ≡ bytes
  pub fits : AllByRecursion FitsCountArea t.records
  pub some : 0 < length t.records
  pub within : bytes_of t.records ≤ bytes

-- a header and tracks that break no rule
pub record IsImageBegun (f : Format) (kept : KeptState) (v : VolumeState) : Type 0 where
  pub header : format_of kept.header ≡ Ok f
  pub long : length kept.header ≡ 512
  pub heads : v.heads ≡ f.heads
  pub bytes : v.track_bytes + 14 ≡ f.bytes
  pub each : length kept.tracks ≡ length v.tracks
  pub tracks : AllByRecursion (IsRecorded v.track_bytes) v.tracks

-- a header and whole cylinders that break no rule: at least one cylinder, and at most 65,535 tracks
pub record IsWholeImage (f : Format) (kept : KeptState) (v : VolumeState) : Type 0 where
  pub begun : IsImageBegun f kept v
  pub few : length v.tracks ≤ 65_535
  pub whole : is_whole v ≡ true

-- BYTES ARE AN IMAGE of a volume: some header, and its tracks with some flags and some bytes after their end marks
pub record IsImage (bytes : List ℕ) (v : VolumeState) : Type 0 where
  pub format : Format
  pub kept : KeptState
  pub valid : IsWholeImage format kept v
  pub file : bytes ≡ file_of format kept v.tracks
