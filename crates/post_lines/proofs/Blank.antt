-- A text that is put together from its end: blanks, and then what was put.
use Rattle.std.proofs.Common.{◌≡◌, ℕ, zero, suc, ◌+◌, ◌≤◌, List, [], ◌∷◌, ◌++◌, length, take, drop, replicate, refl, sym, ap, ◌∙◌, arith, append_assoc, length-append, length-take-le}
use Rattle.std.proofs.Math.Seq.{drop-append_seam}
use Rattle.std.proofs.lemmas.List.{length-replicate, take-append-drop, take_all}
use Rattle.std.proofs.lemmas.Slice.{take-put_mid, drop-put_mid}
use borrow.Rule.Slice.PartMut.{put_mid}

-- the text begins with this many blanks, and then comes the rest
pub record Blank (text : List ℕ) (blanks : ℕ) (rest : List ℕ) : Type 0 where
  pub is : text ≡ replicate blanks 32 ++ rest

drop_blanks : (k : ℕ) (rest : List ℕ) → drop k (replicate k 32 ++ rest) ≡ rest
drop_blanks zero rest = refl
drop_blanks (suc k) rest = drop_blanks k rest

take_blanks : (k n : ℕ) (rest : List ℕ) → k ≤ n → take k (replicate n 32 ++ rest) ≡ replicate k 32
take_blanks zero n rest few = refl
take_blanks (suc k) zero rest few = absurd (omega (arith, few))
take_blanks (suc k) (suc n) rest few = ap (λ (l : List ℕ). 32 ∷ l) (take_blanks k n rest (omega (arith, few)))

parts : (k : ℕ) (text : List ℕ) → text ≡ take k text ++ drop k text
parts zero text = refl
parts (suc k) [] = refl
parts (suc k) (x ∷ xs) = ap (λ (l : List ℕ). x ∷ l) (parts k xs)

one_less : (k : ℕ) (rest : List ℕ) → replicate (suc k) 32 ++ rest ≡ replicate k 32 ++ 32 ∷ rest
one_less zero rest = refl
one_less (suc k) rest = ap (λ (l : List ℕ). 32 ∷ l) (one_less k rest)

-- the rest is what comes after the blanks
pub blank_drop : (text : List ℕ) (k : ℕ) (rest : List ℕ) → Blank text k rest → drop k text ≡ rest
blank_drop text k rest b = ap (drop k) b.is ∙ drop_blanks k rest

-- the last blank belongs to the rest
pub blank_one : (text : List ℕ) (k n : ℕ) (rest : List ℕ) → Blank text n rest → n ≡ suc k → Blank text k (32 ∷ rest)
blank_one text k n rest b is = record {
  is = b.is ∙ ap (λ (i : ℕ). replicate i 32 ++ rest) is ∙ one_less k rest;
}

-- something was put before the rest
pub blank_put : (text new : List ℕ) (k n : ℕ) (rest piece : List ℕ) → Blank text n rest → k ≤ n → drop k new ≡ piece ++ drop n text →
    take k new ≡ take k text → Blank new k (piece ++ rest)
blank_put text new k n rest piece b few written before = record {
  is = parts k new
      ∙ ap (λ (l : List ℕ). l ++ drop k new) (before ∙ ap (take k) b.is ∙ take_blanks k n rest few)
      ∙ ap (λ (l : List ℕ). replicate k 32 ++ l) (written ∙ ap (λ (l : List ℕ). piece ++ l) (blank_drop text n rest b));
}

-- the numbers of a line, put together from its end
pub from_end : (post task unit number end : List ℕ) →
    post ++ (task ++ (32 ∷ (unit ++ (32 ∷ (number ++ (32 ∷ end)))))) ≡ (((post ++ task) ++ (32 ∷ unit)) ++ (32 ∷ number)) ++ (32 ∷ end)
from_end post task unit number end =
    sym (append_assoc ((post ++ task) ++ (32 ∷ unit)) (32 ∷ number) (32 ∷ end)
    ∙ append_assoc (post ++ task) (32 ∷ unit) (32 ∷ (number ++ (32 ∷ end)))
    ∙ append_assoc post task (32 ∷ (unit ++ (32 ∷ (number ++ (32 ∷ end))))))

size_of : (text : List ℕ) (blanks : ℕ) (rest : List ℕ) → Blank text blanks rest → length text ≡ blanks + length rest
size_of text blanks rest b =
    ap (λ (l : List ℕ). length l) b.is ∙ length-append (replicate blanks 32) rest
    ∙ ap (λ (i : ℕ). i + length rest) (length-replicate blanks 32)

-- a word of four letters was put before the last blank, and the text is taken from the word on
pub begun : (text word rest : List ℕ) (start blanks k m : ℕ) → Blank text blanks rest → blanks ≡ start + 5 → k ≡ 4 → length word ≡ 4 →
    length text ≡ start + m → take m (drop start (put_mid start k text word)) ≡ word ++ 32 ∷ rest
begun text word rest start blanks k m b at room four size =
    let made : List ℕ = put_mid start k text word in
    let few : start ≤ length text = omega (arith, size) in
    let head : length (take start text) ≡ start = length-take-le start text few in
    let last : drop (start + 4) text ≡ 32 ∷ rest =
    blank_drop text (start + 4) (32 ∷ rest) (blank_one text (start + 4) blanks rest b (omega (arith, at))) in
    let whole : made ≡ take start text ++ (word ++ drop (start + 4) text) =
    sym (take-append-drop (start + 4) made)
    ∙ ap (λ (l : List ℕ). l ++ drop (start + 4) made) (take-put_mid start k text word (start + 4) (omega (arith, four)) few)
    ∙ ap (λ (l : List ℕ). (take start text ++ word) ++ l)
    (drop-put_mid start k text word (start + 4) (omega (arith, room)) few (four ∙ sym room))
    ∙ append_assoc (take start text) word (drop (start + 4) text) in
    let dropped : drop start made ≡ word ++ 32 ∷ rest =
    ap (drop start) whole
    ∙ ap (λ (i : ℕ). drop i (take start text ++ (word ++ drop (start + 4) text))) (sym head)
    ∙ drop-append_seam (take start text) (word ++ drop (start + 4) text)
    ∙ ap (λ (l : List ℕ). word ++ l) last in
    let fits : length (word ++ 32 ∷ rest) ≤ m =
    omega (arith, length-append word (32 ∷ rest), four, size_of text blanks rest b, size, at) in
    ap (take m) dropped ∙ take_all m (word ++ 32 ∷ rest) fits
