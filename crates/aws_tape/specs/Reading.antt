-- What the bytes of an image of a tape say: the tape and its layout, or the first rule that they break.
use Rattle.std.specs.Prelude.{◌≡◌, ℕ, zero, suc, ◌+◌, Bool, true, false, not, nat_lt, nat_le, ◌&&◌, ◌==◌}
use Rattle.std.specs.Prelude.{List, [], ◌∷◌, ◌++◌, length, take, drop, slice_index}
use Rattle.std.specs.Prelude.{Option, Some, None, Result, Ok, Err, if◌then◌else◌}
use Rattle.std.specs.List.{list_all}
use Rattle.tape_unit.specs.Item.{Item, tape_mark, block}
use Rattle.tape_unit.specs.Reel.{ReelState}
use Rattle.tape_unit.specs.Recording.{with_item, takes_item}
use Rattle.aws_tape.specs.declared.image.TapeImage.{TapeImage}
use Rattle.aws_tape.specs.declared.chunk.Header.{Header}
use Rattle.aws_tape.specs.declared.chunk.ChunkKind.{ChunkKind}
use Rattle.aws_tape.specs.declared.chunk.ChunkKind.TheVariants.{Mark, Whole, First, Middle, Last}
use Rattle.aws_tape.specs.declared.fault.AwsError.{AwsError}
use Rattle.aws_tape.specs.declared.fault.AwsFault.{AwsFault}
use Rattle.aws_tape.specs.declared.fault.AwsFault.TheVariants as fault
use Rattle.aws_tape.specs.Chunk.{len_of, previous_of, is_compressed, chunk_kind, is_digit}
use Rattle.aws_tape.specs.Between.{Between}
use Rattle.aws_tape.specs.Steps.{◌>>=◌}

-- ---- the rules of a header, the first that it breaks

-- a block has at most 65,535 bytes: those so far and those of this chunk
abbrev pub joins : ChunkKind → ℕ → ℕ → Result Header AwsFault
joins kind len so_far = if nat_lt 65_535 (so_far + len) then Err fault.LongBlock else Ok (record { kind = kind; len = len })

-- where a chunk may be: parts of a block are in their order, and a mark is between blocks and has no data
abbrev pub in_place : ChunkKind → ℕ → ℕ → Bool → Result Header AwsFault
in_place Mark len so_far true = Err fault.MarkInBlock
in_place Mark len so_far false = if len == 0 then joins Mark len so_far else Err fault.MarkWithData
in_place Whole len so_far true = Err fault.BlockInBlock
in_place Whole len so_far false = joins Whole len so_far
in_place First len so_far true = Err fault.BlockInBlock
in_place First len so_far false = joins First len so_far
in_place Middle len so_far true = joins Middle len so_far
in_place Middle len so_far false = Err fault.NoBlockOpen
in_place Last len so_far true = joins Last len so_far
in_place Last len so_far false = Err fault.NoBlockOpen

abbrev pub of_kind : Option ChunkKind → ℕ → ℕ → Bool → Result Header AwsFault
of_kind None len so_far is_open = Err fault.BadFlags
of_kind (Some kind) len so_far is_open = in_place kind len so_far is_open

-- what a header of six bytes says, or the first rule that it breaks
abbrev pub header_after : Between → List ℕ → Result Header AwsFault
header_after at header =
    if is_compressed (slice_index header 4) then Err fault.Compressed
    else if not (slice_index header 5 == 0) then Err fault.BadSpare
    else if not (previous_of header == at.previous) then Err fault.BadPrevious
    else of_kind (chunk_kind (slice_index header 4)) (len_of header) (length at.block) at.is_open

-- ---- what the data of a chunk leaves, or the first rule that it breaks

-- data joins the block that is open, or begins one
abbrev pub with_data : Between → List ℕ → Between
with_data at bytes = record {
  reel = at.reel;
  is_open = at.is_open;
  block = at.block ++ bytes;
  layout = at.layout;
  previous = length bytes;
}

-- the layout has the chunk that was read last, which is a part of the block that is open
abbrev pub with_chunk_part : Between → Between
with_chunk_part at = record {
  reel = at.reel;
  is_open = true;
  block = at.block;
  layout = at.layout ++ record { item = length at.reel.items; len = at.previous } ∷ [];
  previous = at.previous;
}

-- the tape has room for an item that ends
abbrev pub recorded : Between → Item → Result Between AwsFault
recorded at x = if not (takes_item at.reel x) then Err fault.TapeFull else Ok (record {
  reel = with_item at.reel x;
  is_open = false;
  block = [];
  layout = at.layout;
  previous = at.previous;
})

-- a block has a byte at least
abbrev pub block_ended : Between → Result Between AwsFault
block_ended at = if length at.block == 0 then Err fault.EmptyBlock else recorded at (block at.block)

-- what a chunk leaves whose data is there
abbrev pub after_data : Between → ChunkKind → Result Between AwsFault
after_data at Mark = recorded at tape_mark
after_data at Whole = block_ended at
after_data at First = Ok (with_chunk_part at)
after_data at Middle = Ok (with_chunk_part at)
after_data at Last = block_ended (with_chunk_part at)

-- WHAT THE DATA OF A CHUNK LEAVES
abbrev pub chunk_after : Between → ChunkKind → List ℕ → Result Between AwsFault
chunk_after at kind bytes = after_data (with_data at bytes) kind

-- ---- THE WHOLE IMAGE

-- before its first chunk
abbrev pub start : ReelState → Between
start reel = record { reel = reel; is_open = false; block = []; layout = []; previous = 0 }

-- after its last chunk no block is open
abbrev pub image_end : Between → Result TapeImage AwsFault
image_end at = if at.is_open then Err fault.BlockWithoutEnd else Ok (record { tape = at.reel; layout = at.layout })

-- the data that follows a header
abbrev pub data_after : Between → List ℕ → Header → Result Between AwsFault
data_after at rest header =
    if nat_lt (length rest) header.len then Err fault.DataCutShort else chunk_after at header.kind (take header.len rest)

-- the first chunk of the bytes that are left
abbrev pub first_after : Between → List ℕ → Result Between AwsFault
first_after at rest =
    if nat_lt (length rest) 6 then Err fault.HeaderCutShort
    else header_after at (take 6 rest) >>= data_after at (drop 6 rest)

-- a fault of the chunk at an offset
abbrev pub at_offset : {A : Type 0} → ℕ → Result A AwsFault → Result A AwsError
at_offset offset (Ok x) = Ok x
at_offset offset (Err e) = Err (record { fault = e; offset = offset })

-- the chunks that are left, at most n of them, one after the other; `rest` begins at `offset`
unfoldable pub read_from : ℕ → ℕ → Between → List ℕ → Result TapeImage AwsError
read_from zero offset at rest = at_offset offset (image_end at)
read_from (suc n) offset at [] = at_offset offset (image_end at)
read_from (suc n) offset at (byte ∷ rest) =
    at_offset offset (first_after at (byte ∷ rest))
    >>= λ next. read_from n (offset + (6 + len_of (byte ∷ rest))) next (drop (6 + len_of (byte ∷ rest)) (byte ∷ rest))

-- a FakeTape file begins with twelve digits
abbrev pub is_fake_tape : List ℕ → Bool
is_fake_tape image = nat_le 12 (length image) && list_all is_digit (take 12 image)

-- WHAT AN IMAGE SAYS, read to a tape of this size: the tape with its items and the layout, or its first fault.
-- A chunk has bytes, so `length image` steps are enough
abbrev pub read_image : ℕ → List ℕ → Result TapeImage AwsError
read_image bytes image =
    if is_fake_tape image then Err (record { fault = fault.FakeTape; offset = 0 })
    else read_from (length image) 0 (start (record { size = bytes; items = [] })) image

-- ---- what calls answer

-- a fault of the image, and not of the reader or of the memory
abbrev pub IsOfImage : AwsFault → Type 0
IsOfImage e = (e ≡ fault.NoMemory → ⊥) × (e ≡ fault.Unreadable → ⊥)

-- what the definition gives, if memory does not run out and no read fails
abbrev pub Answers : {A : Type 0} → Result A AwsFault → Result A AwsFault → Type 0
Answers given (Ok x) = given ≡ Ok x
Answers given (Err e) = IsOfImage e → given ≡ Err e

-- WHAT LOADING ANSWERS if it is known what bytes the reader has
abbrev pub Loads : ℕ → Option (List ℕ) → Result TapeImage AwsError → Type 0
Loads bytes None result = Unit {0}
Loads bytes (Some image) (Ok loaded) = read_image bytes image ≡ Ok loaded
Loads bytes (Some image) (Err e) = IsOfImage e.fault → read_image bytes image ≡ Err e
