-- What stands where in a list.
use Rattle.std.proofs.Common.{◌≡◌, ◌≢◌, ◌⊎◌, inl, inr, ⊎_elim, drop, ℕ, zero, suc, ◌+◌, ◌<◌, List, [], ◌∷◌, ◌++◌, length, set, replicate}
use Rattle.std.proofs.Common.{Some, refl, sym, ap, ◌∙◌, arith, add-one}
use Rattle.std.specs.Prelude.{slice_get, slice_index_or}

module _ {A : Type 0} where
  pub get_set_same : (l : List A) (i : ℕ) (a : A) → i < length l → slice_get (set l i a) i ≡ Some a
  get_set_same [] i a lt = absurd (omega arith)
  get_set_same (x ∷ xs) zero a lt = refl
  get_set_same (x ∷ xs) (suc i) a lt = get_set_same xs i a (omega arith)

  pub get_set_other : (l : List A) (i j : ℕ) (a : A) → j ≢ i → slice_get (set l i a) j ≡ slice_get l j
  get_set_other [] i j a ne = refl
  get_set_other (x ∷ xs) zero zero a ne = absurd (ne refl)
  get_set_other (x ∷ xs) zero (suc j) a ne = refl
  get_set_other (x ∷ xs) (suc i) zero a ne = refl
  get_set_other (x ∷ xs) (suc i) (suc j) a ne = get_set_other xs i j a (λ e. ne (ap suc e))

  -- the element behind the first ones
  pub get_seam : (xs ys : List A) (x : A) → slice_get (xs ++ x ∷ ys) (length xs) ≡ Some x
  get_seam [] ys x = refl
  get_seam (y ∷ xs) ys x = get_seam xs ys x

  pub get_at_seam : (xs ys : List A) {l : List A} {x : A} → l ≡ xs ++ x ∷ ys → slice_get l (length xs) ≡ Some x
  get_at_seam xs ys {x = x} e = ap (λ l. slice_get l (length xs)) e ∙ get_seam xs ys x

  -- what stands in a list with one more at the end
  pub get_snoc : (xs : List A) (a b : A) (k : ℕ) → slice_get (xs ++ a ∷ []) k ≡ Some b →
      (slice_get xs k ≡ Some b) ⊎ ((k ≡ length xs) × (a ≡ b))
  get_snoc [] a b zero e = inr (refl, cc e)
  get_snoc [] a b (suc k) e = absurd (cc e)
  get_snoc (x ∷ xs) a b zero e = inl e
  get_snoc (x ∷ xs) a b (suc k) e = ⊎_elim (λ t. inl t) (λ t. inr (ap suc t.0, t.1)) (get_snoc xs a b k e)

  -- the element at a place, with one more at the end
  pub get_front : (xs : List A) (a b : A) (k : ℕ) → slice_get xs k ≡ Some b → slice_get (xs ++ a ∷ []) k ≡ Some b
  get_front [] a b k e = absurd (cc e)
  get_front (x ∷ xs) a b zero e = e
  get_front (x ∷ xs) a b (suc k) e = get_front xs a b k e

  -- what is left of a list begins with the element at that place
  pub drop_get : (k : ℕ) (xs rest : List A) (x : A) → drop k xs ≡ x ∷ rest → slice_get xs k ≡ Some x
  drop_get zero [] rest x e = absurd (cc e)
  drop_get zero (y ∷ ys) rest x e = cc e
  drop_get (suc k) [] rest x e = absurd (cc e)
  drop_get (suc k) (y ∷ ys) rest x e = drop_get k ys rest x e

  drop_suc : (k : ℕ) (xs rest : List A) (x : A) → drop k xs ≡ x ∷ rest → rest ≡ drop (suc k) xs
  drop_suc zero [] rest x e = absurd (cc e)
  drop_suc zero (y ∷ ys) rest x e = cc e
  drop_suc (suc k) [] rest x e = absurd (cc e)
  drop_suc (suc k) (y ∷ ys) rest x e = drop_suc k ys rest x e

  -- and goes on behind it
  pub drop_next : (k : ℕ) (xs rest : List A) (x : A) → drop k xs ≡ x ∷ rest → rest ≡ drop (k + 1) xs
  drop_next k xs rest x e = drop_suc k xs rest x e ∙ ap (λ n. drop n xs) (sym (add-one k))

  pub replicate_more : (k : ℕ) (a : A) → replicate k a ++ a ∷ [] ≡ replicate (k + 1) a
  replicate_more zero a = refl
  replicate_more (suc k) a = ap (λ l. a ∷ l) (replicate_more k a ∙ ap (λ n. replicate n a) (add-one k))
      ∙ ap (λ n. replicate n a) (sym (add-one (suc k)))

  pub index_replicate : (k t : ℕ) (a : A) → slice_index_or (replicate k a) t a ≡ a
  index_replicate zero t a = refl
  index_replicate (suc k) zero a = refl
  index_replicate (suc k) (suc t) a = index_replicate k t a

  pub some_is : (a b : A) → Some a ≡ Some b → a ≡ b
  some_is a b e = cc e
