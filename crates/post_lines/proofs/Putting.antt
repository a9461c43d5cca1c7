-- Digits that are put into a text, and written.
use Rattle.std.proofs.Common.{◌≡◌, ℕ, ◌+◌, ◌*◌, ◌-◌, ◌<◌, ◌≤◌, ◌/◌, ◌%◌, List, Option, Result, Ok, Err, OnErr, [], ◌∷◌, ◌++◌, length, set, take, drop, get_or, refl, sym, ap, subst, ◌∙◌, arith, append_assoc, append-nil, length-take-le}
use Rattle.std.proofs.KnownBytes.{Appends-kept, Appends-nil, Appends-trans}
use Rattle.std.proofs.lemmas.List.{set-append_right, take_more, length-append, drop-drop, length-drop}
use Rattle.std.specs.Io.KnownBytes.{Appends, Keeps}
use Rattle.post_lines.specs.Digits.{digit_of, in_digits}
use Rattle.post_lines.specs.Writing.{AppendsPart, Wrote}

-- two places of a text are set
pub put_two : (pre rest : List ℕ) (k x y : ℕ) → length pre ≡ k → 2 ≤ length rest →
    set (set (pre ++ rest) k x) (k + 1) y ≡ pre ++ x ∷ y ∷ drop 2 rest
put_two pre [] k x y e h = absurd (omega arith)
put_two pre (a ∷ []) k x y e h = absurd (omega arith)
put_two pre (a ∷ b ∷ rest) k x y e h =
    let zero_is : k - k ≡ 0 = omega arith in
    let one_is : k + 1 - k ≡ 1 = omega arith in
    ap (λ (l : List ℕ). set l (k + 1) y)
    (set-append_right pre (a ∷ b ∷ rest) k k x e (omega arith) ∙ ap (λ (i : ℕ). pre ++ set (a ∷ b ∷ rest) i x) zero_is)
    ∙ set-append_right pre (x ∷ b ∷ rest) k (k + 1) y e (omega arith) ∙ ap (λ (i : ℕ). pre ++ set (x ∷ b ∷ rest) i y) one_is

pub in_digits-append : (xs ys : List ℕ) → in_digits (xs ++ ys) ≡ in_digits xs ++ in_digits ys
unfolding in_digits
in_digits-append [] ys = refl
in_digits-append (x ∷ xs) ys =
    ap (λ (l : List ℕ). digit_of (x / 16) ∷ digit_of (x % 16) ∷ l) (in_digits-append xs ys)

pub length-in_digits : (xs : List ℕ) → length (in_digits xs) ≡ 2 * length xs
unfolding in_digits
length-in_digits [] = refl
length-in_digits (x ∷ xs) = let ih = length-in_digits xs in omega (arith, ih)

pub in_digits-one : (x : ℕ) → in_digits (x ∷ []) ≡ digit_of (x / 16) ∷ digit_of (x % 16) ∷ []
unfolding in_digits
in_digits-one x = refl

pub in_digits-nil : in_digits [] ≡ []
unfolding in_digits
in_digits-nil = refl

pub in_digits-more : (xs : List ℕ) (k x : ℕ) → k < length xs → x ≡ get_or xs k 0 → in_digits (take (k + 1) xs)
    ≡ in_digits (take k xs) ++ in_digits (x ∷ [])
in_digits-more xs k x within is =
    ap in_digits (take_more xs k 0 within) ∙ in_digits-append (take k xs) (get_or xs k 0 ∷ [])
    ∙ ap (λ (y : ℕ). in_digits (take k xs) ++ in_digits (y ∷ [])) (sym is)

-- the digits of one more byte are put behind those of the bytes before it
pub put_more : (t0 text bytes d : List ℕ) (place n : ℕ) → place + 2 * length bytes ≤ length t0 → n < length bytes →
    text ≡ take place t0 ++ in_digits (take n bytes) ++ drop (place + 2 * n) t0 → d ≡ in_digits (get_or bytes n 0 ∷ []) →
    set (set text (place + 2 * n) (get_or d 0 0)) (place + 2 * n + 1) (get_or d 1 0)
    ≡ take place t0 ++ in_digits (take (n + 1) bytes) ++ drop (place + 2 * (n + 1)) t0
put_more t0 text bytes d place n room within is digits =
    let k : ℕ = place + 2 * n in
    let b : ℕ = get_or bytes n 0 in
    let x : ℕ = digit_of (b / 16) in
    let y : ℕ = digit_of (b % 16) in
    let head : List ℕ = take place t0 in
    let done : List ℕ = in_digits (take n bytes) in
    let rest : List ℕ = drop k t0 in
    let two : d ≡ x ∷ y ∷ [] = digits ∙ in_digits-one b in
    let head_len : length head ≡ place = length-take-le place t0 (omega arith) in
    let taken_len : length (take n bytes) ≡ n = length-take-le n bytes (omega arith) in
    let done_len : length done ≡ 2 * n = length-in_digits (take n bytes) ∙ ap (λ (i : ℕ). 2 * i) taken_len in
    let pre_len : length (head ++ done) ≡ k = length-append head done ∙ omega (arith, head_len, done_len) in
    let rest_len : 2 ≤ length rest = omega (arith, length-drop k t0, room, within) in
    let after : place + 2 * n + 2 ≡ place + 2 * (n + 1) = omega arith in
    let more : in_digits (take (n + 1) bytes) ≡ done ++ x ∷ y ∷ [] =
    in_digits-more bytes n b within refl ∙ ap (λ (l : List ℕ). done ++ l) (in_digits-one b) in
    let last : List ℕ = drop (place + 2 * (n + 1)) t0 in
    ap (λ (l : List ℕ). set (set l k (get_or d 0 0)) (k + 1) (get_or d 1 0)) is
    ∙ ap (λ (l : List ℕ). set (set (head ++ done ++ rest) k (get_or l 0 0)) (k + 1) (get_or l 1 0)) two
    ∙ put_two (head ++ done) rest k x y pre_len rest_len
    ∙ ap (λ (l : List ℕ). head ++ done ++ x ∷ y ∷ l) (drop-drop 2 k t0 ∙ ap (λ (i : ℕ). drop i t0) after)
    ∙ sym (append_assoc (head ++ done) (x ∷ y ∷ []) last)
    ∙ ap (λ (l : List ℕ). l ++ last) (append_assoc head done (x ∷ y ∷ []) ∙ ap (λ (l : List ℕ). head ++ l) (sym more))

pub wrote-nothing : (a : Option (List ℕ)) (text : List ℕ) → Wrote a a text text
wrote-nothing a text = record { written = []; appends = Appends-nil a; whole = refl }

pub wrote-more : (a b c : Option (List ℕ)) (piece left before text : List ℕ) → Wrote a b before text → before ≡ piece ++ left
    → Appends b c piece → Wrote a c left text
wrote-more a b c piece left before text w is more = record {
  written = w.written ++ piece;
  appends = Appends-trans a b c w.written piece w.appends more;
  whole = append_assoc w.written piece left ∙ ap (λ (l : List ℕ). w.written ++ l) (sym is) ∙ w.whole;
}

-- a call that appended nothing leaves as much
pub wrote-kept : (a b c : Option (List ℕ)) (left text : List ℕ) → Wrote a b left text → Keeps b c → Wrote a c left text
wrote-kept a b c left text w kept = record { written = w.written; appends = Appends-kept a b c w.written w.appends kept; whole = w.whole }

pub wrote-all : (a b : Option (List ℕ)) (left text : List ℕ) → Wrote a b left text → left ≡ [] → Appends a b text
wrote-all a b left text w none = subst (λ (l : List ℕ). Appends a b l)
    (sym (append-nil w.written) ∙ ap (λ (l : List ℕ). w.written ++ l) (sym none) ∙ w.whole) w.appends

-- a first part of a piece of the text is a first part of the text
pub part-more : (a b c : Option (List ℕ)) (piece left before text : List ℕ) → Wrote a b before text → before ≡ piece ++ left
    → AppendsPart b c piece → AppendsPart a c text
part-more a b c piece left before text w is (last, p) = (
  last ++ left,
  record {
    written = w.written ++ p.written;
    appends = Appends-trans a b c w.written p.written w.appends p.appends;
    whole = append_assoc w.written p.written (last ++ left)
        ∙ ap (λ (l : List ℕ). w.written ++ l) (sym (append_assoc p.written last left) ∙ ap (λ (l : List ℕ). l ++ left) p.whole ∙ sym is)
        ∙ w.whole;
  },
)

-- a text that follows one that was written whole
pub part-after : (a b c : Option (List ℕ)) (first last : List ℕ) → Appends a b first → AppendsPart b c last → AppendsPart a c (first ++ last)
part-after a b c first last done p =
    part-more a b c last [] last (first ++ last) (record { written = first; appends = done; whole = refl }) (sym (append-nil last)) p

-- a text before another one
pub part-before : (a b : Option (List ℕ)) (first last : List ℕ) → AppendsPart a b first → AppendsPart a b (first ++ last)
part-before a b first last p =
    part-more a a b first last (first ++ last) (first ++ last) (wrote-nothing a (first ++ last)) refl p

-- all of a text is a part of it
pub part-whole : (a b : Option (List ℕ)) (text : List ℕ) → Appends a b text → AppendsPart a b text
part-whole a b text done = ([], record { written = text; appends = done; whole = append-nil text })

-- what holds of a call holds if it fails
pub if-failed : {A E P : Type 0} (r : Result A E) → P → OnErr r P
if-failed (Ok x) p = tt
if-failed (Err e) p = p
