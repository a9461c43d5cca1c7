-- The item that `nth` gives of an iterator whose state is the list of what is left.
use Rattle.std.proofs.Common.{◌≡◌, ◌∙◌, ℕ, List, [], ◌∷◌, ◌++◌, Option, None, Some, ap, append-nil, length, refl, sym}
use Rattle.std.specs.Prelude.{slice_get}
use Rattle.std.specs.Iterator.{SkipsThenYields, Yields, YieldsFirst}
use Rattle.std.proofs.lemmas.Option.{slice_get_past}

module _ {X : Type 0} where
  abbrev steps : List X → Option X → List X → Type 0
  steps = YieldsFirst (λ (s : List X). s)

  -- what was passed over, and what is left
  passed : (gone xs rest : List X) → Yields steps xs gone rest → xs ≡ gone ++ rest
  passed [] xs rest h = h
  passed (x ∷ gone) xs rest h = h.1 ∙ ap (λ l. x ∷ l) (passed gone h.0 rest h.2)

  get-after : (gone : List X) (x : X) (rest : List X) → slice_get (gone ++ x ∷ rest) (length gone) ≡ Some x
  get-after [] x rest = refl
  get-after (y ∷ gone) x rest = get-after gone x rest

  pub nth-is : (xs : List X) (n : ℕ) (r : Option X) (ys : List X) → SkipsThenYields steps xs n r ys → slice_get xs n ≡ r
  nth-is xs n None ys h =
      ap (λ l. slice_get l n) (passed h.0 xs h.1.0 h.1.1 ∙ ap (λ l. h.0 ++ l) h.1.2.0 ∙ append-nil h.0) ∙ slice_get_past h.0 n h.2
  nth-is xs n (Some x) ys h =
      ap (λ l. slice_get l n) (passed h.0 xs h.1.0 h.1.1 ∙ ap (λ l. h.0 ++ l) h.1.2)
      ∙ ap (slice_get (h.0 ++ x ∷ ys)) (sym h.2) ∙ get-after h.0 x ys
