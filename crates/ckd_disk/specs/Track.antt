-- A track: its size in bytes, and the records on it from the index point on. R0 has position 0.
use Rattle.std.specs.Prelude.{◌≡◌, ℕ, ◌+◌, ◌<◌, List, [], ◌∷◌, ◌++◌, length, take, drop, slice_index_or, slice_set}
use Rattle.device_port.specs.Moves.{padded}
use Rattle.device_port.specs.Packed.{image_of, offset_of}
use Rattle.ckd_disk.specs.declared.track.spot.Spot.{Spot}
use Rattle.ckd_disk.specs.Record.{Record, blank, ckd}

-- A TRACK: its size in bytes, and its records
pub record TrackState : Type 0 where
  pub size : ℕ
  pub records : List Record

-- the record at a position
abbrev pub record_of : List Record → ℕ → Record
record_of records place = slice_index_or records place blank

-- how many bytes the records take
abbrev pub bytes_of : List Record → ℕ
bytes_of records = length (image_of ckd records)

-- how many bytes the records before a position take
abbrev pub bytes_before : List Record → ℕ → ℕ
bytes_before records place = offset_of ckd records place

-- a spot names a record by its position and by where it begins
pub record IsSpot (records : List Record) (spot : Spot) : Type 0 where
  pub there : spot.place < length records
  pub offset : spot.offset ≡ bytes_before records spot.place

-- a spot names the record after that of another
pub record IsBehind (records : List Record) (spot next : Spot) : Type 0 where
  pub is : IsSpot records next
  pub place : next.place ≡ spot.place + 1

-- the track with another record at a position
abbrev pub with_record : TrackState → ℕ → Record → TrackState
with_record track place r = record { size = track.size; records = slice_set track.records place r }

-- the track with other bytes in the data area at a position: those given, filled up with zeros
abbrev pub with_content : TrackState → ℕ → List ℕ → TrackState
with_content track place given =
    let r = record_of track.records place in
    with_record track place (record r { content = padded (length r.content) given })

-- the track with other bytes in the key and data area at a position
abbrev pub with_key_and_content : TrackState → ℕ → List ℕ → TrackState
with_key_and_content track place given =
    let r = record_of track.records place in
    let bytes = padded (length r.key + length r.content) given in
    with_record track place (record r { key = take (length r.key) bytes; content = drop (length r.key) bytes })

-- the track with a record after a position, and none after it
abbrev pub with_record_behind : TrackState → ℕ → Record → TrackState
with_record_behind track place r = record { size = track.size; records = take (place + 1) track.records ++ r ∷ [] }

-- the track with a record after the last one
abbrev pub with_last : TrackState → Record → TrackState
with_last track r = record { size = track.size; records = track.records ++ r ∷ [] }
