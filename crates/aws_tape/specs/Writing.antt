-- The bytes of an image of a tape (AWSTAPE).
use Rattle.std.specs.Prelude.{◌≡◌, ℕ, ◌+◌, ◌<◌, ◌≤◌, ◌==◌, nat_lt, Bool, ◌&&◌, Ok, if◌then◌else◌}
use Rattle.std.specs.Prelude.{List, [], ◌∷◌, ◌++◌, length, take, drop, get_or}
use Rattle.std.specs.Str.{bytes_eq}
use Rattle.byteorder.specs.Endian.{little_bytes}
use Rattle.tape_unit.specs.Item.{Item, tape_mark, block, content_of}
use Rattle.tape_unit.specs.Reel.{ReelState, bytes_of}
use Rattle.aws_tape.specs.declared.layout.Part.{Part}
use Rattle.aws_tape.specs.Reading.{read_image}
use Rattle.aws_tape.specs.Layout.{count_before, own_count, bytes_in}

-- A HEADER: the length of its chunk and that of the chunk before, the lowest byte first, what the chunk is, and 0
abbrev pub header_of : ℕ → ℕ → ℕ → List ℕ
header_of len previous flags = little_bytes 2 len ++ (little_bytes 2 previous ++ flags ∷ 0 ∷ [])

-- byte 4 of a chunk of a block: X'80' if it is the first, and X'20' if it is the last, with none after it
abbrev pub flags_of : ℕ → List Part → ℕ
flags_of first after = first + (if length after == 0 then 0x20 else 0)

-- the chunks of a block; `first` is X'80' before its first one, and 0 after it
unfoldable pub chunks_of : ℕ → ℕ → List Part → List ℕ → List ℕ
chunks_of previous first [] bytes = []
chunks_of previous first (part ∷ parts) bytes =
    (header_of part.len previous (flags_of first parts) ++ take part.len bytes)
    ++ chunks_of part.len 0 parts (drop part.len bytes)

-- whether a block is written in these chunks: they are several, and have its bytes
abbrev pub is_split : List Part → List ℕ → Bool
is_split parts bytes = nat_lt 1 (length parts) && (bytes_in parts == length bytes)

-- THE CHUNKS OF AN ITEM
abbrev pub item_image : ℕ → List Part → Item → List ℕ
item_image previous parts tape_mark = header_of 0 previous 0x40
item_image previous parts (block bytes) =
    if is_split parts bytes then chunks_of previous 0x80 parts bytes else header_of (length bytes) previous 0xA0 ++ bytes

-- the length of the last one; `len` is that of the one before
unfoldable pub last_length : ℕ → List Part → ℕ
last_length len [] = len
last_length len (part ∷ parts) = last_length part.len parts

abbrev pub last_len : ℕ → List Part → Item → ℕ
last_len previous parts tape_mark = 0
last_len previous parts (block bytes) = if is_split parts bytes then last_length previous parts else length bytes

-- the chunks of the items from an index on; `parts` are the chunks of blocks from there on that have several
unfoldable pub items_image : List Part → ℕ → ℕ → List Item → List ℕ
items_image parts place previous [] = []
items_image parts place previous (x ∷ items) =
    let own = take (own_count place parts) parts in
    item_image previous own x ++ items_image (drop (own_count place parts) parts) (place + 1) (last_len previous own x) items

-- how many items two tapes have in common from their load points on
unfoldable pub common : List Item → List Item → ℕ
common [] ys = 0
common (x ∷ xs) [] = 0
common (x ∷ xs) (y ∷ ys) = if bytes_eq (content_of x) (content_of y) then 1 + common xs ys else 0

-- the chunks of what a tape has in common with the tape that was mounted
abbrev pub common_parts : List Part → List Item → List Item → List Part
common_parts layout mounted now = take (count_before (common mounted now) layout) layout

-- THE IMAGE of a tape: what it has in common with the tape that was mounted is in the chunks of the layout, and the rest
-- in one chunk for each block
abbrev pub saved : List Part → List Item → List Item → List ℕ
saved layout mounted now = items_image (common_parts layout mounted now) 0 0 now

-- WHAT IS WRITTEN IS READ BACK: each tape that has room for the items loads them from the image, with some layout
abbrev pub IsReadBack : List Item → List ℕ → Type 0
IsReadBack items image =
    (size : ℕ) → bytes_of items ≤ size
    → (layout : List Part) × (read_image size image ≡ Ok (record { tape = record { size = size; items = items }; layout = layout }))

-- numbers that are bytes, as those of a reader
abbrev pub IsBytes : List ℕ → Type 0
IsBytes bytes = (i : ℕ) → get_or bytes i 0 < 256

-- AN IMAGE THAT WAS LOADED: its bytes say this layout and these items, to a tape of some size
pub record IsLoaded (layout : List Part) (items : List Item) (image : List ℕ) : Type 0 where
  pub size : ℕ
  pub tape : ReelState
  pub bytes : IsBytes image
  pub loads : read_image size image ≡ Ok (record { tape = tape; layout = layout })
  pub recorded : tape.items ≡ items

-- both begin with the same bytes, from which these items are loaded
pub record HaveFront (items : List Item) (image written : List ℕ) : Type 0 where
  pub front : List ℕ
  pub in_front : IsReadBack items front
  pub of_image : take (length front) image ≡ front
  pub of_written : take (length front) written ≡ front

-- WHAT WAS NOT WRITTEN IS SAVED AS IT WAS LOADED: the items that the tape has in common with the one that was loaded have
-- the bytes that they have in its image
abbrev pub IsUntouched : List Part → List Item → List Item → List ℕ → Type 0
IsUntouched layout mounted now written =
    (image : List ℕ) → IsLoaded layout mounted image → HaveFront (take (common mounted now) mounted) image written
