-- What stands where in a list.
use Rattle.std.proofs.Common.{◌≡◌, ◌≢◌, ◌⊎◌, ℕ, zero, suc, List, [], ◌∷◌, ◌++◌, length, set, refl, ap, sym, ◌∙◌, subst, inl, inr, ⊎_elim}
use mathlib.Core.Option.{some, some-injective, some-ne-none}
use lib.ListN.{get_elem?}
use Rattle.crossbeam_queue.proofs.Lists.{at_set}
use Rattle.fifo_row.specs.Lists.{HaveFacts, Met}

module _ {A : Type 0} where
  -- what stands in a list with one more at the end
  pub snoc_cases : (l : List A) (a b : A) (j : ℕ) → get_elem? (l ++ a ∷ []) j ≡ some b →
      (get_elem? l j ≡ some b) ⊎ ((j ≡ length l) × (a ≡ b))
  snoc_cases [] a b zero e = inr (refl, some-injective a b e)
  snoc_cases [] a b (suc j) e = absurd (some-ne-none b (sym e))
  snoc_cases (x ∷ xs) a b zero e = inl e
  snoc_cases (x ∷ xs) a b (suc j) e = ⊎_elim (λ t. inl t) (λ t. inr (ap suc t.0, t.1)) (snoc_cases xs a b j e)

  -- what stands behind the first ones
  pub get-seam : (xs ys : List A) (x : A) → get_elem? (xs ++ x ∷ ys) (length xs) ≡ some x
  get-seam [] ys x = refl
  get-seam (y ∷ xs) ys x = get-seam xs ys x

  pub length-set : (l : List A) (i : ℕ) (a : A) → length (set l i a) ≡ length l
  length-set [] i a = refl
  length-set (x ∷ xs) zero a = refl
  length-set (x ∷ xs) (suc i) a = ap suc (length-set xs i a)

  -- a fact of each element and its place, after a change of one
  pub all_set : (F : ℕ → A → Type 0) (l : List A) (i : ℕ) (w : A) → F i w → ((j : ℕ) (u : A) → j ≢ i → get_elem? l j ≡ some u → F j u) →
      (j : ℕ) (u : A) → get_elem? (set l i w) j ≡ some u → F j u
  all_set F l i w mine others j u e =
      ⊎_elim (λ (t : (j ≡ i) × (w ≡ u)). subst (λ (y : ℕ × A). F y.0 y.1) (λ n. (sym t.0 n, t.1 n)) mine)
      (λ (t : (j ≢ i) × (get_elem? l j ≡ some u)). others j u t.0 t.1) (at_set l i j w u e)

  -- a fact of each element and its place, after a change of one and with one more at the end
  pub all_set_snoc : (F : ℕ → A → Type 0) (l : List A) (i : ℕ) (w last : A) → F i w →
      ((j : ℕ) (u : A) → j ≢ i → get_elem? l j ≡ some u → F j u) → F (length l) last
      → (j : ℕ) (u : A) → get_elem? (set l i w ++ last ∷ []) j ≡ some u → F j u
  all_set_snoc F l i w last mine others new j u e =
      ⊎_elim (λ old. all_set F l i w mine others j u old)
      (λ (t : (j ≡ length (set l i w)) × (last ≡ u)). subst (λ (y : ℕ × A). F y.0 y.1) (λ n. (sym (t.0 ∙ length-set l i w) n, t.1 n)) new)
      (snoc_cases (set l i w) last u j e)

  -- one more lawful item
  pub lawful_snoc : (fact : A → ℕ → ℕ → ℕ → Type 0) (tag k : ℕ) (xs : List A) (x : A) → HaveFacts fact tag k xs →
      fact x k (suc (length xs)) tag → HaveFacts fact tag k (xs ++ x ∷ [])
  lawful_snoc fact tag k xs x old new i y e =
      ⊎_elim (λ t. old i y t)
      (λ (t : (i ≡ length xs) × (x ≡ y)). subst (λ (p : A × ℕ). fact p.0 k (suc p.1) tag) (λ j. (t.1 j, sym t.0 j)) new)
      (snoc_cases xs x y i e)

  pub no_met : (k : ℕ) (xs : List A) {B : Type 0} → Met [] k xs → B
  no_met k xs m = absurd (some-ne-none (k, xs) (sym m.1))

  met_at : (met : List (ℕ × List A)) (number k : ℕ) (sent xs : List A) (i : ℕ) → get_elem? ((number, sent) ∷ met) i ≡ some (k, xs) →
      ((k ≡ number) × (sent ≡ xs)) ⊎ Met met k xs
  met_at met number k sent xs zero e = let p = some-injective (number, sent) (k, xs) e in inl (sym (ap (λ q. q.0) p), ap (λ q. q.1) p)
  met_at met number k sent xs (suc i) e = inr (i, e)

  -- a sender that was met is the last one or an earlier one
  pub met_cons : (met : List (ℕ × List A)) (number k : ℕ) (sent xs : List A) → Met ((number, sent) ∷ met) k xs →
      ((k ≡ number) × (sent ≡ xs)) ⊎ Met met k xs
  met_cons met number k sent xs m = met_at met number k sent xs m.0 m.1
