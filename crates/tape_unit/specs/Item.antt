-- An item of a tape, and the bytes that it takes on the medium.
use Rattle.std.specs.Prelude.{◌≡◌, ℕ, ◌+◌, Bool, true, false, nat_le, ◌&&◌, List, [], ◌∷◌, ◌++◌, length, take, drop}
use Rattle.byteorder.specs.Endian.{big_bytes, big_number}
use Rattle.device_port.specs.Packed.{Spelling}

-- AN ITEM: a block of data, or a tape mark (magnetic tape)
pub data Item : Type 0 where
  tape_mark : Item
  block : List ℕ → Item

-- whether an item is a tape mark
abbrev pub is_mark : Item → Bool
is_mark tape_mark = true
is_mark (block bytes) = false

-- the data of an item: a tape mark has none
abbrev pub content_of : Item → List ℕ
content_of tape_mark = []
content_of (block bytes) = bytes

-- the item that has this data
abbrev pub item_with : List ℕ → Item
item_with [] = tape_mark
item_with (byte ∷ bytes) = block (byte ∷ bytes)

-- a block has 1 to 65,535 bytes (profile)
abbrev pub is_item : Item → Bool
is_item tape_mark = true
is_item (block bytes) = nat_le 1 (length bytes) && nat_le (length bytes) 65_535

-- how many bytes of the medium an item takes: four for its length, and its data (profile)
abbrev pub size_of : Item → ℕ
size_of x = 4 + length (content_of x)

-- its length in two bytes, the highest first; a tape mark's is zero (profile)
abbrev pub length_bytes : Item → List ℕ
length_bytes x = big_bytes 2 (length (content_of x))

-- the bytes themselves: the length is before the data and after it, so that the tape moves in both directions (profile)
abbrev pub packed : Item → List ℕ
packed x = length_bytes x ++ (content_of x ++ length_bytes x)

-- the length that bytes begin with
abbrev pub length_at : List ℕ → ℕ
length_at bytes = big_number 2 bytes

-- the item that bytes begin with
unfoldable pub item_at : List ℕ → Item
item_at bytes = item_with (take (length_at bytes) (drop 2 bytes))

-- how a tape spells its items
abbrev pub on_tape : Spelling Item
on_tape = record { packed = packed; item_at = item_at; size_at = λ bytes. 4 + length_at bytes; Fits = λ x. is_item x ≡ true }
