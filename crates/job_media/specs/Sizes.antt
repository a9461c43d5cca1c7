-- THE SIZES OF MEDIA FROM IMAGES, in the lines of their units (profile).
use Rattle.std.specs.Prelude.{ℕ, Bool, List, [], ◌∷◌, ◌++◌, length, get_or, map, Option, Some, None, ◌==◌, ◌&&◌, ◌||◌}
use Rattle.std.specs.Prelude.{codes, if◌then◌else◌}
use Rattle.std.specs.Fmt.{decimal}
use Rattle.std.specs.List.{join_with_byte}
use Rattle.std.specs.Str.{bytes_eq}
use Rattle.script_words.specs.Forms.{decimal_in}
use Rattle.script_words.specs.Text.{lines, words}
use Rattle.medium_image.specs.declared.image.Size.{Size}
use Rattle.medium_image.specs.declared.image.Size.TheVariants.{Disk, Tape}

-- a word of a line is a hyphen
abbrev pub is_hyphen : ℕ → List (List ℕ) → Bool
is_hyphen place ws = bytes_eq (get_or ws place []) (codes "-")

-- the line of a tape with a hyphen for its number
abbrev pub leaves_tape : List (List ℕ) → Bool
leaves_tape ws = bytes_eq (get_or ws 0 []) (codes "tape") && is_hyphen 3 ws && (length ws == 4)

-- the line of a disk with one hyphen for all its numbers, or one for each
abbrev pub leaves_disk : List (List ℕ) → Bool
leaves_disk ws =
    bytes_eq (get_or ws 0 []) (codes "disk") && is_hyphen 3 ws
    && ((length ws == 4) || ((length ws == 6) && is_hyphen 4 ws && is_hyphen 5 ws))

-- a line leaves a size of this kind to the image
abbrev pub leaves_size : Size → List (List ℕ) → Bool
leaves_size (Disk geometry) ws = leaves_disk ws
leaves_size (Tape bytes) ws = leaves_tape ws

-- a word and a blank
abbrev pub with_blank : List ℕ → List ℕ
with_blank word = word ++ 32 ∷ []

-- the numbers of a size
abbrev pub numbers : Size → List ℕ
numbers (Disk geometry) = with_blank (decimal geometry.cylinders) ++ with_blank (decimal geometry.heads) ++ decimal geometry.track_bytes
numbers (Tape bytes) = decimal bytes

-- the first three words of a line, and then the numbers of a size
abbrev pub sized : Size → List (List ℕ) → List ℕ
sized size ws = with_blank (get_or ws 0 []) ++ with_blank (get_or ws 1 []) ++ with_blank (get_or ws 2 []) ++ numbers size

-- the size of a unit's image, if the unit has one
abbrev pub size_of_unit : List (Option Size) → Option ℕ → Option Size
size_of_unit sizes None = None
size_of_unit sizes (Some unit) = get_or sizes unit None

-- the size of the image of the unit that a line speaks of
abbrev pub size_of_line : List (Option Size) → List (List ℕ) → Option Size
size_of_line sizes ws = size_of_unit sizes (decimal_in 0 63 (get_or ws 1 []))

-- a line with this size, if it leaves its size to the image
abbrev pub line_with : Option Size → List ℕ → List ℕ
line_with None line = line
line_with (Some size) line = if leaves_size size (words line) then sized size (words line) else line

-- a line with the size of its unit's image
unfoldable pub sized_line : List (Option Size) → List ℕ → List ℕ
sized_line sizes line = line_with (size_of_line sizes (words line)) line

-- A TEXT with the sizes of images, by the numbers of their units
unfoldable pub text_with_sizes : List (Option Size) → List ℕ → List ℕ
text_with_sizes sizes text = join_with_byte 10 (map (sized_line sizes) (lines text))
