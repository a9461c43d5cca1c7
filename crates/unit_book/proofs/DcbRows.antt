-- The rows of a table of DCBs, without their flags.
use Rattle.unit_book.proofs.Names.{◌≡◌, ◌<◌, ℕ, zero, suc, ◌+◌, ◌-◌, true, Option, Some, None, List, [], ◌∷◌, ◌++◌, length, refl, ap, ◌∙◌, sym}
use Rattle.unit_book.proofs.Names.{arith, eqb, inl, inr, cases_Bool, map, slice_get, drop, reverse, filter, filter-append, Dcb, dcb_at}
use Rattle.std.proofs.Common.{Bool, get_or, set, take}
use Rattle.std.proofs.lemmas.List.{append-nil, reverse-append}
use Rattle.std.proofs.lemmas.Option.{slice_get-map}
use Rattle.std.specs.Prelude.{option_map}
use Rattle.unit_book.specs.Fields.{unflagged, unflagged_row}

-- the first rows have no flags, the others are as they were
abbrev pub first_unflagged : ℕ → List Dcb → List Dcb
first_unflagged n rows = map unflagged_row (take n rows) ++ drop n rows

next-of : (n : ℕ) (rows : List Dcb) (row : Dcb) → n < length rows → row ≡ get_or (first_unflagged n rows) n row →
    set (first_unflagged n rows) n (unflagged_row row) ≡ first_unflagged (suc n) rows
next-of n [] row lt is = absurd (omega (arith, lt))
next-of zero (r ∷ rows) row lt is = ap (λ (x : Dcb). unflagged_row x ∷ rows) is
next-of (suc n) (r ∷ rows) row lt is = ap (λ l. unflagged_row r ∷ l) (next-of n rows row (omega (arith, lt)) is)

pub unflag-next : (n : ℕ) (rows : List Dcb) (row : Dcb) → n < length rows → row ≡ get_or (first_unflagged n rows) n row →
    set (first_unflagged n rows) n (unflagged_row row) ≡ first_unflagged (n + 1) rows
unflag-next n rows row lt is =
    let e : n + 1 ≡ suc n = omega arith in next-of n rows row lt is ∙ ap (λ k. first_unflagged k rows) (sym e)

by_row : (o : Option Dcb) → option_map unflagged_row o ≡ unflagged true o
by_row None = refl
by_row (Some row) = refl

-- a DCB of the table
pub unflagged-at : (rows : List Dcb) (d : ℕ) → dcb_at (map unflagged_row rows) d ≡ unflagged true (dcb_at rows d)
unflagged-at rows d = elim (cases_Bool (eqb d 0)) [
  | inl z ↦ rw z refl
  | inr z ↦ rw z (slice_get-map unflagged_row rows (d - 1) ∙ by_row (slice_get rows (d - 1)))
]

-- what passes a test, in the other order
pub filter-reverse : {X : Type 0} (p : X → Bool) (xs : List X) → reverse (filter p xs) ≡ filter p (reverse xs)
filter-reverse p [] = refl
filter-reverse p (x ∷ xs) = elim (cases_Bool (p x)) [
  | inl y ↦ rw y (reverse-append (x ∷ []) (filter p xs) ∙ ap (λ l. l ++ x ∷ []) (filter-reverse p xs)
      ∙ sym (ap (filter p) (reverse-append (x ∷ []) xs) ∙ filter-append p (reverse xs) (x ∷ []) ∙ rw y refl))
  | inr n ↦ rw n (filter-reverse p xs
      ∙ sym (ap (filter p) (reverse-append (x ∷ []) xs) ∙ filter-append p (reverse xs) (x ∷ []) ∙ rw n (append-nil (filter p (reverse xs)))))
]
