-- The first place that passes, and the first word of a line.
use Rattle.std.proofs.Common.{◌≡◌, ◌<◌, ◌≤◌, ℕ, suc, Bool, true, false, not, List, [], ◌∷◌, length, take, drop, get_or, refl, sym, add-zero}
use Rattle.std.proofs.Common.{length-drop, ap, ◌∙◌, eqb, arith, inl, inr}
use Rattle.std.proofs.Math.Numerals.{one-add}
use Rattle.std.specs.List.{position_or_len, slice_split, onto_first, filter}
use Rattle.std.proofs.lemmas.Bool.{cases_Bool, true≢false, eqb-true, eqb-false}
use Rattle.std.proofs.lemmas.List.{get_or-drop, nil_from_length}
use Rattle.std.proofs.lemmas.List.Sums.{position_or_len_is, prefix_len-le-length, passes_at_first}
use Rattle.script_words.specs.Scan.{is_word_byte}
use Rattle.script_words.specs.Text.{is_space, is_word, words}

pub stops_here : (p : ℕ → Bool) (xs : List ℕ) (i : ℕ) → i < length xs → ((k : ℕ) → k < i → p (get_or xs k 0) ≡ false)
    → p (get_or xs i 0) ≡ true → i ≡ position_or_len p xs
stops_here p xs i within below here = sym (position_or_len_is p xs i 0 (omega arith) below (λ _. here))

pub stops_at_end : (p : ℕ → Bool) (xs : List ℕ) (i : ℕ) → length xs ≤ i → i ≤ length xs → ((k : ℕ) → k < i → p (get_or xs k 0) ≡ false)
    → length xs ≡ position_or_len p xs
stops_at_end p xs i end within below =
    let e : length xs ≡ i = omega arith in e ∙ sym (position_or_len_is p xs i 0 within below (λ h. absurd (omega arith)))

pub within : (p : ℕ → Bool) (xs : List ℕ) → position_or_len p xs ≤ length xs
within p xs = prefix_len-le-length (λ x. not (p x)) xs

-- a line is one word and what the words after it come from
abbrev pub BeginsWithWord : ℕ → List ℕ → Type 0
BeginsWithWord b bs =
    (parts : List (List ℕ)) × (slice_split is_space (b ∷ bs) ≡ (b ∷ take (position_or_len is_space bs) bs) ∷ parts) ×
    (filter is_word parts ≡ words (drop (position_or_len is_space bs) bs))

at_space : (b c : ℕ) (cs : List ℕ) → is_space b ≡ false → is_space c ≡ true → BeginsWithWord b (c ∷ cs)
unfolding words
at_space b c cs e h = (slice_split is_space cs, simp (e, h), simp h)

at_byte : (b c : ℕ) (cs : List ℕ) → is_space b ≡ false → is_space c ≡ false → BeginsWithWord c cs → BeginsWithWord b (c ∷ cs)
unfolding words
at_byte b c cs e h ih =
    let stop : position_or_len is_space (c ∷ cs) ≡ suc (position_or_len is_space cs) = rw h (one-add _) in
    let split : slice_split is_space (b ∷ c ∷ cs) ≡ onto_first b (slice_split is_space (c ∷ cs)) = rw e refl in
    (ih.0, split ∙ rw (ih.1, stop) refl, rw stop ih.2)

pub word_after : (b : ℕ) (bs : List ℕ) → is_space b ≡ false → BeginsWithWord b bs
unfolding words
word_after b [] e = ([], rw e refl, refl)
word_after b (c ∷ cs) e = elim (cases_Bool (is_space c)) [ inl h ↦ at_space b c cs e h | inr h ↦ at_byte b c cs e h (word_after c cs h) ]

pub words_begin : (line : List ℕ) → 0 < length line → is_space (get_or line 0 0) ≡ false
    → words line ≡ take (position_or_len is_space line) line ∷ words (drop (position_or_len is_space line) line)
unfolding words
words_begin [] some e = absurd (omega arith)
words_begin (b ∷ bs) some e =
    let stop : position_or_len is_space (b ∷ bs) ≡ suc (position_or_len is_space bs) = rw e (one-add _) in
    let w = word_after b bs e in
    rw (w.1, stop) (ap (λ (ws : List (List ℕ)). (b ∷ take (position_or_len is_space bs) bs) ∷ ws) w.2)

-- spaces at the front say nothing
pub words_after_spaces : (line : List ℕ) → words line ≡ words (drop (position_or_len is_word_byte line) line)
unfolding words
words_after_spaces [] = refl
words_after_spaces (b ∷ bs) =
    elim (cases_Bool (is_space b)) [
      | inl h ↦
          (let stop : position_or_len is_word_byte (b ∷ bs) ≡ suc (position_or_len is_word_byte bs) = rw h (one-add _) in rw stop
          (rw h (words_after_spaces bs)))
      | inr h ↦ (let stop : position_or_len is_word_byte (b ∷ bs) ≡ 0 = rw h refl in rw stop refl)
    ]

pub no_words : (line : List ℕ) → drop (position_or_len is_word_byte line) line ≡ [] → words line ≡ []
unfolding words
no_words line e = words_after_spaces line ∙ rw e refl

-- the first byte that is no space
pub begins : (line : List ℕ) → 0 < length (drop (position_or_len is_word_byte line) line)
    → is_space (get_or (drop (position_or_len is_word_byte line) line) 0 0) ≡ false
begins line some =
    let at = position_or_len is_word_byte line in
    let inside : at < length line = omega (arith, length-drop at line) in
    let here : is_word_byte (get_or line at 0) ≡ true = passes_at_first is_word_byte line 0 inside in
    let e : get_or (drop at line) 0 0 ≡ get_or line at 0 = get_or-drop at line 0 0 ∙ ap (λ (k : ℕ). get_or line k 0) (add-zero at) in
    rw e (elim (cases_Bool (is_space (get_or line at 0))) [ inl h ↦ absurd (true≢false (sym here ∙ ap not h)) | inr h ↦ h ])

pub next_of : (line rest : List ℕ) → rest ≡ drop (position_or_len is_word_byte line) line → 0 < length rest
    → words line ≡ take (position_or_len is_space rest) rest ∷ words (drop (position_or_len is_space rest) rest)
next_of line rest e some = words_after_spaces line ∙ rw (sym e) (words_begin rest some (rw e (begins line (rw (sym e) some))))

-- the same, as code finds it
pub no_words_left : (line back : List ℕ) (start : ℕ) → start ≡ position_or_len is_word_byte line → back ≡ drop start line
    → eqb (length back) 0 ≡ true → words line ≡ []
no_words_left line back start e b none =
    let empty : back ≡ [] = nil_from_length back (eqb-true (length back) 0 none) in
    no_words line (ap (λ (k : ℕ). drop k line) (sym e) ∙ sym b ∙ empty)

pub next_of_rest : (line back word rest : List ℕ) (start end : ℕ) → start ≡ position_or_len is_word_byte line → back ≡ drop start line
    → eqb (length back) 0 ≡ false
    → end ≡ position_or_len is_space back → word ≡ take end back → rest ≡ drop end back → words line ≡ word ∷ words rest
next_of_rest line back word rest start end s b some e w r =
    let positive : 0 < length back = omega (arith, eqb-false (length back) 0 some) in
    rw (w, r, e) (next_of line back (b ∙ ap (λ (k : ℕ). drop k line) s) positive)

drops : (a : List (List ℕ)) → drop 1 (drop 1 (drop 1 a)) ≡ drop 3 a
drops [] = refl
drops (x ∷ []) = refl
drops (x ∷ y ∷ []) = refl
drops (x ∷ y ∷ z ∷ more) = refl

pub drop_three : (a b c d : List (List ℕ)) → b ≡ drop 1 a → c ≡ drop 1 b → d ≡ drop 1 c → d ≡ drop 3 a
drop_three a b c d e f g = g ∙ ap (λ (ws : List (List ℕ)). drop 1 ws) f ∙ ap (λ (ws : List (List ℕ)). drop 1 (drop 1 ws)) e ∙ drops a

pub no_word : (line : List ℕ) → words line ≡ [] → words [] ≡ drop 1 (words line)
unfolding words
no_word line none = rw none refl
