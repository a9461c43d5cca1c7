-- Elements that stand at the places of their numbers.
use Rattle.std.proofs.Common.{◌≡◌, ℕ, ◌+◌, List, [], ◌∷◌, ◌++◌, length, sym, ap, ◌∙◌, subst, ⊎_elim, length-append}
use Rattle.std.specs.Prelude.{slice_get}
use Rattle.excp_system.specs.Drained.{ArePlaced}
use Rattle.excp_system.proofs.Places.{get_seam, get_snoc}

-- one more, whose number is how many there were
placed_snoc : {A : Type 0} (number : A → ℕ) (count : ℕ) (xs : List A) (x : A) → ArePlaced number count xs → number x ≡ count →
    ArePlaced number (count + 1) (xs ++ x ∷ [])
placed_snoc {A} number count xs x p new = record {
  count_is = length-append xs (x ∷ []) ∙ ap (λ n. n + 1) p.count_is;
  each = λ k y at. ⊎_elim
      (λ old. p.each k y old)
      (λ (t : (k ≡ length xs) × (x ≡ y)). ap number (sym t.1) ∙ new ∙ sym p.count_is ∙ sym t.0)
      (get_snoc xs x y k at);
}

-- one more, made of the next of others that are so placed, with its number
pub placed_more : {A B : Type 0} (from : A → ℕ) (to : B → ℕ) (count : ℕ) (all yielded rest : List A) (x : A) (made : List B) (y : B) →
    ArePlaced from count all → all ≡ yielded ++ x ∷ rest → ArePlaced to (length yielded) made → to y ≡ from x →
    ArePlaced to (length (yielded ++ x ∷ [])) (made ++ y ∷ [])
placed_more {A} {B} from to count all yielded rest x made y placed split so same =
    subst (λ n. ArePlaced to n (made ++ y ∷ [])) (sym (length-append yielded (x ∷ [])))
    (placed_snoc to (length yielded) made y so
    (same ∙ placed.each (length yielded) x (ap (λ l. slice_get l (length yielded)) split ∙ get_seam yielded rest x)))
