-- A TEXT is lines, and a line is words (profile).
use Rattle.std.specs.Prelude.{ℕ, ◌+◌, length, Bool, true, false, List, [], ◌∷◌, Option, Some, None, ◌==◌, ◌&&◌, nat_le, filter, get_or}
use Rattle.std.specs.List.{slice_split, list_all}

-- the byte is a line feed
abbrev pub is_line_feed : ℕ → Bool
is_line_feed byte = byte == 10

-- the byte is a space
abbrev pub is_space : ℕ → Bool
is_space byte = byte == 32

-- the lines of a text: line feeds separate them, so after the last line feed comes one more line
unfoldable pub lines : List ℕ → List (List ℕ)
lines text = slice_split is_line_feed text

-- the first line of a text
abbrev pub leading_line : List ℕ → List ℕ
leading_line text = get_or (lines text) 0 []

-- the lines of what is left of a text, if anything is left
abbrev pub lines_left : Option (List ℕ) → List (List ℕ)
lines_left None = []
lines_left (Some text) = lines text

-- how many bytes are left, and one more if a line is left
abbrev pub bytes_left : Option (List ℕ) → ℕ
bytes_left None = 0
bytes_left (Some text) = length text + 1

-- a word has at least one byte
abbrev pub is_word : List ℕ → Bool
is_word [] = false
is_word (byte ∷ bytes) = true

-- the words of a line: spaces separate them
unfoldable pub words : List ℕ → List (List ℕ)
words line = filter is_word (slice_split is_space line)

-- the byte is a printable ASCII character or a space
abbrev pub is_printable_byte : ℕ → Bool
is_printable_byte byte = nat_le 32 byte && nat_le byte 126

-- each byte of a line is a printable ASCII character or a space
abbrev pub is_printable : List ℕ → Bool
is_printable line = list_all is_printable_byte line
