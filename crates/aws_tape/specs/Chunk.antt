-- The chunks of an image of a tape (AWSTAPE): each is a header of six bytes, and its data.
use Rattle.std.specs.Prelude.{ℕ, ◌%◌, Bool, not, nat_le, ◌&&◌, ◌||◌, ◌==◌, Option, Some, None, List, drop, if◌then◌else◌}
use Rattle.byteorder.specs.Endian.{little_number}
use Rattle.aws_tape.specs.declared.chunk.ChunkKind.{ChunkKind}
use Rattle.aws_tape.specs.declared.chunk.ChunkKind.TheVariants.{Mark, Whole, First, Middle, Last}

-- ---- A HEADER

-- bytes 0 and 1: how many bytes of data the chunk has, the lowest first
abbrev pub len_of : List ℕ → ℕ
len_of header = little_number 2 header

-- bytes 2 and 3: how many the chunk before has; 0 at the start of the image and after a tape mark
abbrev pub previous_of : List ℕ → ℕ
previous_of header = little_number 2 (drop 2 header)

-- byte 4: whether the chunk is compressed, as a chunk of a HET file may be
abbrev pub is_compressed : ℕ → Bool
is_compressed flags = not (flags % 4 == 0)

-- byte 4: what the chunk is
abbrev pub chunk_kind : ℕ → Option ChunkKind
chunk_kind flags =
    if flags == 0x40 then Some Mark
    else if flags == 0xA0 then Some Whole
    else if flags == 0x80 then Some First
    else if flags == 0x00 then Some Middle
    else if flags == 0x20 then Some Last
    else None

-- whether a byte is an upper hexadecimal digit in ASCII, as all of the twelve bytes that begin a FakeTape file
abbrev pub is_digit : ℕ → Bool
is_digit byte = (nat_le 0x30 byte && nat_le byte 0x39) || (nat_le 0x41 byte && nat_le byte 0x46)
