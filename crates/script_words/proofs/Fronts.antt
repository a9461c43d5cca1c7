-- Words at the front of a text, and its first line.
use Rattle.std.proofs.Common.{◌≡◌, ◌<◌, ◌≤◌, ◌+◌, ℕ, suc, Bool, true, false, ◌&&◌, List, [], ◌∷◌, ◌++◌, length, take, drop, get_or}
use Rattle.std.proofs.Common.{Option, Some, drop-cons, length-append, refl, sym, ap, ◌∙◌, arith, eqb, inl, inr}
use Rattle.std.specs.Char.{digit_value, is_digit}
use Rattle.std.specs.List.{All, list_all, slice_index_or, slice_split}
use Rattle.std.specs.Str.{bytes_eq}
use Rattle.std.specs.Str.Parse.{digits_value, AllDigits}
use Rattle.std.proofs.lemmas.Bool.{cases_Bool, cases_lt, le-leb, lt-leb, lt-ltb, le-ltb, ltb-true, ne_eqb, true≢false}
use Rattle.std.proofs.lemmas.List.{take-append-drop, length-take-le}
use Rattle.std.proofs.lemmas.List.Folds.{list_all-append}
use Rattle.std.proofs.lemmas.List.Splits.{slice_split_at}
use Rattle.std.proofs.lemmas.List.Sums.{AllPass-from_list_all, list_all-from_AllPass}
use Rattle.std.proofs.lemmas.Option.{cond_some}
use Rattle.std.proofs.lemmas.Slice.Eq.{bytes_eq-Decides}
use Rattle.script_words.specs.Forms.{all_digits, decimal, decimal_in, hexadecimal}
use Rattle.script_words.specs.Front.{Front, LeadingLine, is_graphic_byte}
use Rattle.script_words.specs.Text.{is_line_feed, is_printable, is_printable_byte, is_space, leading_line, lines}
use Rattle.script_words.proofs.Numbers.{all_true, decimal_is}
use Rattle.script_words.proofs.Scans.{plain_byte, words_last, words_word}

-- a graphic byte is printable, and neither a space nor a line feed
graphic_bounds : (b : ℕ) → is_graphic_byte b ≡ true → (33 ≤ b) × (b ≤ 126)
graphic_bounds b e =
    elim (cases_lt b 33) [
      | inl h ↦ absurd (true≢false (sym e ∙ rw (lt-leb 33 b h) refl))
      | inr h ↦ elim (cases_lt 126 b) [ inl k ↦ absurd (true≢false (sym e ∙ rw (le-leb 33 b h, lt-leb b 126 k) refl)) | inr k ↦ (h, k) ]
    ]

graphic_at : (word : List ℕ) → list_all is_graphic_byte word ≡ true → All (λ b. (33 ≤ b) × (b ≤ 126)) word
graphic_at word e = λ k d h. graphic_bounds (slice_index_or word k d) (AllPass-from_list_all is_graphic_byte word e k d h)

printable_word : (word : List ℕ) → list_all is_graphic_byte word ≡ true → is_printable word ≡ true
printable_word word e =
    list_all-from_AllPass is_printable_byte word (λ k d h.
    let g = graphic_at word e k d h in
    let low : 32 ≤ slice_index_or word k d = omega (arith, g.0) in plain_byte (slice_index_or word k d) low g.1)

-- a graphic byte is not this other one
without : (other : ℕ) (word : List ℕ) → other < 33 → list_all is_graphic_byte word ≡ true → All (λ b. eqb b other ≡ false) word
without other word low e =
    λ k d h. let g = graphic_at word e k d h in ne_eqb (slice_index_or word k d) other (λ i. omega (arith, i, g.0, low))

spaceless : (word : List ℕ) → list_all is_graphic_byte word ≡ true → All (λ b. is_space b ≡ false) word
spaceless word e = without 32 word (omega arith) e

feedless : (word : List ℕ) → list_all is_graphic_byte word ≡ true → All (λ b. is_line_feed b ≡ false) word
feedless word e = without 10 word (omega arith) e

rest_is_shorter : (word text rest : List ℕ) (end : ℕ) → text ≡ word ++ end ∷ rest → length rest < length text
rest_is_shorter word text rest end is = rw is (omega (arith, length-append word (end ∷ rest)))

-- a line feed ends the first line
pub last_word : (word text after : List ℕ) → text ≡ word ++ 10 ∷ after → 0 < length word → list_all is_graphic_byte word ≡ true
    → LeadingLine text (word ∷ []) after
unfolding lines
last_word word text after is some e = record {
  line = word;
  split = rw is (slice_split_at is_line_feed word 10 after (feedless word e) refl);
  parts = words_last word some (spaceless word e);
  printable = printable_word word e;
  shorter = rest_is_shorter word text after 10 is;
}

begins_with_part : (text : List ℕ)
    → slice_split is_line_feed text ≡ get_or (slice_split is_line_feed text) 0 [] ∷ drop 1 (slice_split is_line_feed text)
begins_with_part [] = refl
begins_with_part (b ∷ bs) =
    elim (cases_Bool (is_line_feed b)) [ inl h ↦ rw h refl | inr h ↦ rw (h, begins_with_part bs) refl ]

-- bytes before the first line that end no line are of it
split_front : (front rest line : List ℕ) (more : List (List ℕ)) → All (λ b. is_line_feed b ≡ false) front
    → slice_split is_line_feed rest ≡ line ∷ more → slice_split is_line_feed (front ++ rest) ≡ (front ++ line) ∷ more
split_front [] rest line more all e = e
split_front (b ∷ bs) rest line more all e =
    let here : is_line_feed b ≡ false = all 0 0 (omega arith) in
    let others : All (λ x. is_line_feed x ≡ false) bs = λ k d h. all (suc k) d (omega arith) in
    rw (here, split_front bs rest line more others e) refl

-- a word and a space before the first line are of it
pub one_word_more : (word text rest : List ℕ) (ws : List (List ℕ)) (after : List ℕ) → text ≡ word ++ 32 ∷ rest → 0 < length word
    → list_all is_graphic_byte word ≡ true → LeadingLine rest ws after → LeadingLine text (word ∷ ws) after
unfolding lines
one_word_more word text rest ws after is some e f =
    let spaced : slice_split is_line_feed (32 ∷ rest) ≡ (32 ∷ f.line) ∷ slice_split is_line_feed after = rw f.split refl in
    record {
      line = word ++ 32 ∷ f.line;
      split = rw is (split_front word (32 ∷ rest) (32 ∷ f.line) (slice_split is_line_feed after) (feedless word e) spaced);
      parts = words_word word f.line some (spaceless word e) ∙ ap (λ (l : List (List ℕ)). word ∷ l) f.parts;
      printable = list_all-append is_printable_byte word (32 ∷ f.line) ∙ rw (printable_word word e, f.printable) refl;
      shorter = omega (arith, f.shorter, rest_is_shorter word text rest 32 is);
    }

pub front_word : {form : List ℕ → Option ℕ} (text rest : List ℕ) (value : ℕ) (ws : List (List ℕ)) (after : List ℕ)
    → (f : Front form 32 text value rest) → LeadingLine rest ws after → LeadingLine text (f.word ∷ ws) after
front_word text rest value ws after f others = one_word_more f.word text rest ws after f.split f.some f.graphic others

pub front_last : {form : List ℕ → Option ℕ} (text after : List ℕ) (value : ℕ) → (f : Front form 10 text value after)
    → LeadingLine text (f.word ∷ []) after
front_last text after value f = last_word f.word text after f.split f.some f.graphic

-- a text has a first line
pub has_leading_line : (text : List ℕ) → lines text ≡ leading_line text ∷ drop 1 (lines text)
unfolding lines
has_leading_line text = begins_with_part text

-- digits are graphic
graphic_digit : (b : ℕ) → digit_value b < 36 → is_graphic_byte b ≡ true
graphic_digit b small =
    elim (cases_lt b 48) [
      | inl h ↦ (let other : digit_value b ≡ 36 = rw (lt-ltb b 48 h) refl in absurd (omega (arith, other, small)))
      | inr h ↦ elim (cases_lt b 123) [
        | inl k ↦ rw (le-leb 33 b (omega (arith, h)), le-leb b 126 (omega (arith, k))) refl
        | inr k ↦ (
            let other : digit_value b ≡ 36 =
            rw (
              le-ltb b 48 h,
              le-ltb b 58 (omega (arith, k)),
              le-ltb b 65 (omega (arith, k)),
              le-ltb b 91 (omega (arith, k)),
              le-ltb b 97 (omega (arith, k)),
              le-ltb b 123 k,
            )
            refl in
            absurd (omega (arith, other, small)))
      ]
    ]

graphic_digits : (base : ℕ) (word : List ℕ) → base ≤ 36 → all_digits base word ≡ true → list_all is_graphic_byte word ≡ true
graphic_digits base word le e =
    list_all-from_AllPass is_graphic_byte word (λ k d h.
    let b = slice_index_or word k d in
    let below = ltb-true (digit_value b) base (AllPass-from_list_all (λ x. is_digit x base) word e k d h) in
    graphic_digit b (omega (arith, le, below)))

-- a word of digits before a byte
at_byte : (text rest : List ℕ) (place end : ℕ) → place < length text → get_or text place 0 ≡ end → rest ≡ drop (place + 1) text
    → text ≡ take place text ++ end ∷ rest
at_byte text rest place end within is after =
    let next : suc place ≡ place + 1 = omega arith in
    let back : drop place text ≡ end ∷ rest = drop-cons text place 0 within ∙ rw (is, after, next) refl in
    sym (take-append-drop place text) ∙ ap (λ (l : List ℕ). take place text ++ l) back

pub decimal_front : (text rest : List ℕ) (end place value : ℕ) → place < length text → 1 ≤ place → place ≤ 10 → get_or text place 0 ≡ end
    → rest ≡ drop (place + 1) text → AllDigits 10 (take place text) → value ≡ digits_value 10 (take place text)
    → Front decimal end text value rest
decimal_front text rest end place value within some few is after digits says =
    let word = take place text in
    let size : length word ≡ place = length-take-le place text (omega (arith, within)) in
    record {
      word = word;
      split = at_byte text rest place end within is after;
      reads = sym (decimal_is word (omega (arith, size, some)) (omega (arith, size, few)) digits) ∙ ap Some (sym says);
      some = omega (arith, size, some);
      graphic = graphic_digits 10 word (omega arith) (all_true 10 word digits);
    }

pub decimal_in_front : (least most end value : ℕ) (text rest : List ℕ) → least ≤ value → value ≤ most → Front decimal end text value rest
    → Front (decimal_in least most) end text value rest
unfolding decimal_in
decimal_in_front least most end value text rest low high f = record {
  word = f.word;
  split = f.split;
  reads = rw (f.reads, le-leb least value low, le-leb value most high) refl;
  some = f.some;
  graphic = f.graphic;
}

all_of : (a b : Bool) → (a && b) ≡ true → b ≡ true
all_of true b e = e
all_of false true e = refl
all_of false false e = e

pub hexadecimal_front : (text word rest : List ℕ) (digits end value : ℕ) → 1 ≤ digits → digits < length text
    → get_or text digits 0 ≡ end → word ≡ take digits text → rest ≡ drop (digits + 1) text → Some value ≡ hexadecimal digits word
    → Front (hexadecimal digits) end text value rest
unfolding hexadecimal
hexadecimal_front text word rest digits end value some within is front after reads =
    let size : length word ≡ digits = rw front (length-take-le digits text (omega (arith, within))) in
    record {
      word = word;
      split = rw front (at_byte text rest digits end within is after);
      reads = sym reads;
      some = omega (arith, size, some);
      graphic = graphic_digits 16 word (omega arith) (all_of _ _ (cond_some _ _ _ (sym reads)).0);
    }

-- a name before a space
pub name_front : (text name word rest : List ℕ) → length name < length text → get_or text (length name) 0 ≡ 32
    → word ≡ take (length name) text → rest ≡ drop (length name + 1) text → bytes_eq word name ≡ true → text ≡ name ++ 32 ∷ rest
name_front text name word rest within is front after same =
    let e : take (length name) text ≡ name = sym front ∙ (bytes_eq-Decides word name).0 same in
    at_byte text rest (length name) 32 within is after ∙ ap (λ (l : List ℕ). l ++ 32 ∷ rest) e
