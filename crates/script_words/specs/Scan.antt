-- WHAT A PASS over the bytes of a line keeps. It is no part of the meaning of a text.
use Rattle.std.specs.Prelude.{◌≡◌, ◌<◌, ◌≤◌, ◌-◌, ◌==◌, ℕ, Bool, false, not, List, [], ◌∷◌, ◌++◌, length, take, drop, get_or}
use Rattle.std.specs.List.{All}
use Rattle.script_words.specs.Text.{is_space, words}

-- the byte is no space
abbrev pub is_word_byte : ℕ → Bool
is_word_byte byte = not (byte == 32)

-- the bytes from one offset up to another
abbrev pub piece : List ℕ → ℕ → ℕ → List ℕ
piece text start end = take (end - start) (drop start text)

-- the offsets where each of the first eight words begins and ends
pub record Keeps (text starts ends : List ℕ) (found : List (List ℕ)) (place : ℕ) : Type 0 where
  pub begins : length starts ≡ 8
  pub stops : length ends ≡ 8
  pub word : (k : ℕ) → k < 8 → k < length found → get_or found k [] ≡ piece text (get_or starts k 0) (get_or ends k 0)
  pub order : (k : ℕ) → k < 8 → k < length found → get_or starts k 0 ≤ get_or ends k 0
  pub inside : (k : ℕ) → k < 8 → k < length found → get_or ends k 0 ≤ place

-- the bytes before an offset are the words found, and then the bytes from start on
pub record Scanned (text starts ends : List ℕ) (count start place : ℕ) : Type 0 where
  pub found : List (List ℕ)
  pub split : (tail : List ℕ) → words (take place text ++ tail) ≡ found ++ words (piece text start place ++ tail)
  pub counted : length found ≡ count
  pub kept : Keeps text starts ends found place
  pub before : start ≤ place
  pub word : All (λ byte. is_space byte ≡ false) (piece text start place)

-- the bytes before an offset are `count` words
pub record Closed (text starts ends : List ℕ) (count place : ℕ) : Type 0 where
  pub counted : length (words (take place text)) ≡ count
  pub kept : Keeps text starts ends (words (take place text)) place
  pub split : (tail : List ℕ) → words (take place text ++ 32 ∷ tail) ≡ words (take place text) ++ words tail
