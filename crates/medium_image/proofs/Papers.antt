-- The text of a printer is written piece by piece.
use Rattle.std.proofs.Common.{◌≡◌, ℕ, Bool, true, false, ◌==◌, cond, List, [], ◌∷◌, ◌++◌, map, refl, ap, ◌∙◌, append-nil}
use Rattle.std.proofs.lemmas.List.{map-append}
use Rattle.std.proofs.lemmas.Str.{encodes-append}
use Rattle.std.specs.Str.{encode_utf8_all}
use Rattle.std.specs.Char.{encode_utf8}
use Rattle.line_printer.specs.declared.paper.PaperPosition.{PaperPosition}
use Rattle.line_printer.specs.Paper.{Line}
use Rattle.medium_image.specs.Paper.{before_rest, character, line_text, lines_text, motion_text, without_blanks}

-- a blank at the end is left out
pub blank_end : (line : List ℕ) → without_blanks (line ++ 0x40 ∷ []) ≡ without_blanks line
unfolding without_blanks
blank_end [] = refl
blank_end (byte ∷ others) = ap (before_rest byte) (blank_end others)

before_some : (byte last : ℕ) (others : List ℕ) → before_rest byte (others ++ last ∷ []) ≡ byte ∷ (others ++ last ∷ [])
before_some byte last [] = refl
before_some byte last (next ∷ others) = refl

-- a line that ends with no blank is whole
pub no_blank_end : (line : List ℕ) (last : ℕ) → (last == 0x40) ≡ false → without_blanks (line ++ last ∷ []) ≡ line ++ last ∷ []
unfolding without_blanks
no_blank_end [] last is = ap (λ (b : Bool). cond b [] (last ∷ [])) is
no_blank_end (byte ∷ others) last is = ap (before_rest byte) (no_blank_end others last is) ∙ before_some byte last others

pub no_blank_nil : without_blanks [] ≡ []
unfolding without_blanks
no_blank_nil = refl

-- one character more
pub text_more : (bytes : List ℕ) (byte : ℕ)
    → encode_utf8_all (map character (bytes ++ byte ∷ [])) ≡ encode_utf8_all (map character bytes) ++ encode_utf8 (character byte)
text_more bytes byte =
    ap encode_utf8_all (map-append character bytes (byte ∷ []))
    ∙ encodes-append (map character bytes) (character byte ∷ [])
    ∙ ap (λ (l : List ℕ). encode_utf8_all (map character bytes) ++ l) (append-nil (encode_utf8 (character byte)))

-- one line more
pub next_text : (is_printed : Bool) (from : PaperPosition) (line : Line) (others : List Line) (to : PaperPosition)
    → lines_text is_printed from (line ∷ others) to
    ≡ motion_text is_printed from line.at ++ (line_text line.bytes ++ lines_text true line.at others to)
unfolding lines_text
next_text is_printed from line others to = refl

-- no line is left
pub last_text : (is_printed : Bool) (from to : PaperPosition) → lines_text is_printed from [] to ≡ motion_text is_printed from to
unfolding lines_text
last_text is_printed from to = refl
