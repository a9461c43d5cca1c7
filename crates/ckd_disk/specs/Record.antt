-- A count-key-data record, and the bytes that it takes on a track.
use Rattle.std.specs.Prelude.{◌≡◌, ℕ, ◌+◌, ◌*◌, ◌^◌, ◌<◌, List, [], ◌∷◌, ◌++◌, length, take, drop, slice_index}
use Rattle.std.specs.Int.{w16, to_be_bytes}
use Rattle.device_port.specs.Moves.{padded}
use Rattle.device_port.specs.Packed.{Spelling}

-- A RECORD: the CCHHR of its count area, its key area and its data area (count-key-data devices)
pub record Record : Type 0 where
  pub id : List ℕ
  pub key : List ℕ
  pub content : List ℕ

-- the record with these parts
abbrev pub record_with : List ℕ → List ℕ → List ℕ → Record
record_with id key content = record { id = id; key = key; content = content }

-- a record without bytes, which no track holds
abbrev pub blank : Record
blank = record { id = []; key = []; content = [] }

-- THE COUNT AREA: CCHHR, the key length in one byte and the data length in two (count-key-data devices)
abbrev pub count_area : Record → List ℕ
count_area r = r.id ++ length r.key ∷ to_be_bytes w16 (length r.content)

-- the bytes of a record on its track: count area, key area and data area, without gaps (profile)
abbrev pub packed : Record → List ℕ
packed r = count_area r ++ (r.key ++ r.content)

-- how many bytes these are
abbrev pub size_of : Record → ℕ
size_of r = 8 + length r.key + length r.content

-- a count area can describe the record
pub record FitsCountArea (r : Record) : Type 0 where
  pub id : length r.id ≡ 5
  pub key : length r.key < 256
  pub content : length r.content < 2 ^ 16

-- what a count area says of the bytes that it begins: the key length, the data length, and how many bytes
-- the record takes
abbrev pub key_len : List ℕ → ℕ
key_len bytes = slice_index bytes 5

-- the length of the data area, from the count area
abbrev pub content_len : List ℕ → ℕ
content_len bytes = slice_index bytes 6 * 256 + slice_index bytes 7

-- how many bytes the record with this count area takes
abbrev pub size_at : List ℕ → ℕ
size_at bytes = 8 + key_len bytes + content_len bytes

-- the record that the bytes begin with
unfoldable pub record_at : List ℕ → Record
record_at bytes = record {
  id = take 5 bytes;
  key = take (key_len bytes) (drop 8 bytes);
  content = take (content_len bytes) (drop (8 + key_len bytes) bytes);
}

-- the bytes are one record
abbrev pub IsRecord : List ℕ → Type 0
IsRecord bytes = length bytes ≡ size_at bytes

-- how a track spells its records
abbrev pub ckd : Spelling Record
ckd = record { packed = packed; item_at = record_at; size_at = size_at; Fits = FitsCountArea }

-- the record that is written when a program gives these bytes, with zeros for those that are missing (profile)
abbrev pub record_written : List ℕ → Record
record_written given = record_at (padded (size_at given) given)
