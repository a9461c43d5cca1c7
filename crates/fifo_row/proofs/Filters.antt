-- The items of one sender.
use Rattle.std.proofs.Common.{◌≡◌, ◌≢◌, ◌==◌, ℕ, List, [], ◌∷◌, ◌++◌, refl, ap, ◌∙◌, eq-eqb, ne_eqb}
use Rattle.std.proofs.lemmas.List.Elements.{filter-append}
use Rattle.std.proofs.lemmas.List.{append-nil}
use Rattle.fifo_row.specs.Lists.{of_sender}

module _ {I : Type 0} (from : I → ℕ) where
  pub of-append : (k : ℕ) (xs ys : List I) → of_sender from k (xs ++ ys) ≡ of_sender from k xs ++ of_sender from k ys
  of-append k xs ys = filter-append (λ x. from x == k) xs ys

  of-one_same : (k : ℕ) (x : I) → from x ≡ k → of_sender from k (x ∷ []) ≡ x ∷ []
  of-one_same k x is = rw (eq-eqb (from x) k is)

  of-one_other : (k : ℕ) (x : I) → from x ≢ k → of_sender from k (x ∷ []) ≡ []
  of-one_other k x not = rw (ne_eqb (from x) k not)

  pub of-snoc_same : (k : ℕ) (x : I) (xs : List I) → from x ≡ k → of_sender from k (xs ++ x ∷ []) ≡ of_sender from k xs ++ x ∷ []
  of-snoc_same k x xs is = of-append k xs (x ∷ []) ∙ ap (λ l. of_sender from k xs ++ l) (of-one_same k x is)

  pub of-snoc_other : (k : ℕ) (x : I) (xs : List I) → from x ≢ k → of_sender from k (xs ++ x ∷ []) ≡ of_sender from k xs
  of-snoc_other k x xs not = of-append k xs (x ∷ []) ∙ (ap (λ l. of_sender from k xs ++ l) (of-one_other k x not) ∙ append-nil (of_sender from k xs))

  -- x stands behind the items of its sender that come before
  pub of-at : (x : I) (xs ys : List I) → of_sender from (from x) (xs ++ x ∷ ys) ≡ of_sender from (from x) xs ++ x ∷ of_sender from (from x) ys
  of-at x xs ys = of-append (from x) xs (x ∷ ys) ∙ ap (λ l. of_sender from (from x) xs ++ l)
      (of-append (from x) (x ∷ []) ys ∙ ap (λ l. l ++ of_sender from (from x) ys) (of-one_same (from x) x refl))
