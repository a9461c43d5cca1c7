-- Words that are compared byte by byte.
use Rattle.std.proofs.Common.{◌≡◌, ◌<◌, ◌≢◌, ℕ, List, length, get_or, true, false, refl, sym, ap, arith, ◌∙◌, inl, inr}
use Rattle.std.specs.Str.{bytes_eq}
use Rattle.std.proofs.lemmas.Bool.{cases_Bool}
use Rattle.std.proofs.lemmas.List.{ext_get_or}
use Rattle.std.proofs.lemmas.Slice.Eq.{bytes_eq-Decides}

pub is_spelled : (word name : List ℕ) → length word ≡ length name → ((k : ℕ) → k < length name → get_or word k 0 ≡ get_or name k 0)
    → true ≡ bytes_eq word name
is_spelled word name size same = sym ((bytes_eq-Decides word name).1 (ext_get_or 0 word name size (λ k h. same k (omega (arith, size, h)))))

differs : (word name : List ℕ) → word ≢ name → false ≡ bytes_eq word name
differs word name other =
    elim (cases_Bool (bytes_eq word name)) [ inl h ↦ absurd (other ((bytes_eq-Decides word name).0 h)) | inr h ↦ sym h ]

pub other_length : (word name : List ℕ) → length word ≢ length name → false ≡ bytes_eq word name
other_length word name other = differs word name (λ e. other (ap (λ (l : List ℕ). length l) e))

pub other_byte : (word name : List ℕ) (k : ℕ) → get_or word k 0 ≢ get_or name k 0 → false ≡ bytes_eq word name
other_byte word name k other = differs word name (λ e. other (ap (λ (l : List ℕ). get_or l k 0) e))
