-- What reading a part of an image leaves, if it is known what bytes the reader has.
use Rattle.std.specs.Prelude.{◌≡◌, ℕ, ◌+◌, ◌<◌, ◌≤◌, List, [], length, take, drop, Option, Some, None, Result, Ok, Err}
use Rattle.aws_tape.specs.declared.chunk.Header.{Header}
use Rattle.aws_tape.specs.declared.fault.AwsFault.{AwsFault}
use Rattle.aws_tape.specs.declared.fault.AwsFault.TheVariants as fault
use Rattle.aws_tape.specs.Chunk.{len_of}
use Rattle.aws_tape.specs.Between.{Between}
use Rattle.aws_tape.specs.Reading.{IsOfImage, with_data, data_after, first_after, read_from}
use Rattle.aws_tape.specs.declared.image.TapeImage.{TapeImage}
use Rattle.aws_tape.specs.declared.fault.AwsError.{AwsError}

-- a reader that had `rest` has what follows its first n bytes
abbrev pub Drops : ℕ → List ℕ → Option (List ℕ) → Type 0
Drops n rest None = ⊥
Drops n rest (Some left) = left ≡ drop n rest

-- data of n bytes joined the block, or there are fewer
abbrev pub FetchesChunk : Between → Between → ℕ → Option (List ℕ) → Option (List ℕ) → {A : Type 0} → Result A AwsFault → Type 0
FetchesChunk at next n None new result = Unit {0}
FetchesChunk at next n (Some rest) new (Ok done) = (n ≤ length rest) × (next ≡ with_data at (take n rest)) × Drops n rest new
FetchesChunk at next n (Some rest) new (Err e) = IsOfImage e → (e ≡ fault.DataCutShort) × (length rest < n)

-- the data of a chunk with this header was read
abbrev pub ReadsData : Between → Between → Header → Option (List ℕ) → Option (List ℕ) → {A : Type 0} → Result A AwsFault → Type 0
ReadsData at next header None new result = Unit {0}
ReadsData at next header (Some rest) new (Ok done) = (data_after at rest header ≡ Ok next) × (header.len ≤ length rest) × Drops header.len rest new
ReadsData at next header (Some rest) new (Err e) = IsOfImage e → data_after at rest header ≡ Err e

-- the first chunk of the bytes that are left was read, which has so much data; none if nothing is left
abbrev pub ReadsChunk : Between → Between → Option (List ℕ) → Option (List ℕ) → Result (Option ℕ) AwsFault → Type 0
ReadsChunk at next None new result = Unit {0}
ReadsChunk at next (Some rest) new (Ok None) = (rest ≡ []) × (next ≡ at)
ReadsChunk at next (Some rest) new (Ok (Some len)) =
    (0 < length rest) × (first_after at rest ≡ Ok next) × (len ≡ len_of rest) × Drops (6 + len) rest new
ReadsChunk at next (Some rest) new (Err e) = IsOfImage e → (0 < length rest) × (first_after at rest ≡ Err e)

-- the chunks that are left were read
abbrev pub ReadsChunks : Between → Option (List ℕ) → Result TapeImage AwsError → Type 0
ReadsChunks at None result = Unit {0}
ReadsChunks at (Some rest) (Ok image) = read_from (length rest) 0 at rest ≡ Ok image
ReadsChunks at (Some rest) (Err e) = IsOfImage e.fault → read_from (length rest) 0 at rest ≡ Err e

-- the chunks from an offset on say what all chunks say
abbrev pub IsLeft : Between → Option (List ℕ) → Option (List ℕ) → ℕ → Between → Type 0
IsLeft first None now offset at = Unit {0}
IsLeft first (Some image) None offset at = ⊥
IsLeft first (Some image) (Some rest) offset at = read_from (length image) 0 first image ≡ read_from (length rest) offset at rest
