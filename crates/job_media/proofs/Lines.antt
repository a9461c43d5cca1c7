-- A text is made line by line.
use Rattle.std.proofs.Common.{◌≡◌, ℕ, List, [], ◌∷◌, ◌++◌, map, Option, Some, None, sym, ap, ◌∙◌, append_assoc, append-nil}
use Rattle.std.specs.List.{join_with_byte}
use Rattle.script_words.specs.Text.{lines, lines_left}
use Rattle.medium_image.specs.declared.image.Size.{Size}
use Rattle.job_media.specs.Sizes.{sized_line, text_with_sizes}

-- lines, each after a line feed
pub after_feeds : List (List ℕ) → List ℕ
after_feeds [] = []
after_feeds (line ∷ others) = 10 ∷ (line ++ after_feeds others)

joined : (line : List ℕ) (others : List (List ℕ)) → join_with_byte 10 (line ∷ others) ≡ line ++ after_feeds others
unfolding after_feeds
joined line [] = sym (append-nil line)
joined line (next ∷ others) = ap (λ (l : List ℕ). line ++ 10 ∷ l) (joined next others)

-- what is left of a text, with its sizes
pub left_with : List (Option Size) → Option (List ℕ) → List ℕ
left_with sizes left = after_feeds (map (sized_line sizes) (lines_left left))

-- the first line
pub first_line : (sizes : List (Option Size)) (text line : List ℕ) (left : Option (List ℕ))
    → lines text ≡ line ∷ lines_left left → sized_line sizes line ++ left_with sizes left ≡ text_with_sizes sizes text
unfolding left_with text_with_sizes
first_line sizes text line left is =
    sym (ap (λ (ls : List (List ℕ)). join_with_byte 10 (map (sized_line sizes) ls)) is
    ∙ joined (sized_line sizes line) (map (sized_line sizes) (lines_left left)))

-- one line more
pub next_line : (sizes : List (Option Size)) (whole more text line : List ℕ) (left : Option (List ℕ))
    → lines text ≡ line ∷ lines_left left → more ≡ (whole ++ 10 ∷ []) ++ sized_line sizes line
    → more ++ left_with sizes left ≡ whole ++ left_with sizes (Some text)
unfolding left_with after_feeds
next_line sizes whole more text line left is made =
    ap (λ (l : List ℕ). l ++ after_feeds (map (sized_line sizes) (lines_left left))) made
    ∙ append_assoc (whole ++ 10 ∷ []) (sized_line sizes line) (after_feeds (map (sized_line sizes) (lines_left left)))
    ∙ append_assoc whole (10 ∷ []) (sized_line sizes line ++ after_feeds (map (sized_line sizes) (lines_left left)))
    ∙ sym (ap (λ (ls : List (List ℕ)). whole ++ after_feeds (map (sized_line sizes) ls)) is)

-- no line is left
pub no_line : (sizes : List (Option Size)) (whole : List ℕ) → whole ++ left_with sizes None ≡ whole
unfolding left_with after_feeds
no_line sizes whole = append-nil whole
