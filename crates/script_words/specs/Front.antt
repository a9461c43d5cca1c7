-- THE FRONT OF A TEXT: a word and the byte that ends it, and the first line by its words.
use Rattle.std.specs.Prelude.{◌≡◌, ◌<◌, ◌&&◌, ℕ, Bool, true, nat_le, List, ◌∷◌, ◌++◌, length, Option, Some}
use Rattle.std.specs.List.{list_all}
use Rattle.script_words.specs.Text.{is_printable, lines, words}

-- the byte is a printable ASCII character, and no space
abbrev pub is_graphic_byte : ℕ → Bool
is_graphic_byte byte = nat_le 33 byte && nat_le byte 126

-- a text is a word of this form with this value, the byte that ends it, and the rest
pub record Front (form : List ℕ → Option ℕ) (end : ℕ) (text : List ℕ) (value : ℕ) (rest : List ℕ) : Type 0 where
  pub word : List ℕ
  pub split : text ≡ word ++ end ∷ rest
  pub reads : form word ≡ Some value
  pub some : 0 < length word
  pub graphic : list_all is_graphic_byte word ≡ true

-- the first line of a text is printable and has these words, and a shorter text comes after it
pub record LeadingLine (text : List ℕ) (ws : List (List ℕ)) (after : List ℕ) : Type 0 where
  pub line : List ℕ
  pub split : lines text ≡ line ∷ lines after
  pub parts : words line ≡ ws
  pub printable : is_printable line ≡ true
  pub shorter : length after < length text
