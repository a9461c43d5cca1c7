-- A sweep that has gone through the first k of the requests.
use Rattle.std.proofs.Common.{◌≡◌, ℕ, suc, ◌+◌, ◌<◌, ◌≤◌, Bool, true, false, List, [], ◌∷◌, ◌++◌, length, take, drop, get_or, slice_get}
use Rattle.std.proofs.Common.{Some, refl, sym, ap, ◌∙◌, arith, append_assoc, length-append, length-drop, length-take, add-one}
use Rattle.std.proofs.lemmas.List.{append-nil, drop_all, take_all}
use Rattle.std.proofs.lemmas.List.Elements.{filter-append}
use Rattle.std.proofs.lemmas.List.Filters.{length-filter_both}
use Rattle.std.proofs.Math.Seq.{drop-cons, take-suc}
use Rattle.std.specs.Prelude.{filter, not}
use Rattle.request_piece.specs.declared.piece.Piece.{Piece}

module _ (test : Piece → Bool) where
  -- what waits: the requests not yet gone through, and behind them those that stay
  abbrev pub staying : List Piece → ℕ → List Piece
  staying all k = drop k all ++ filter (λ r. not (test r)) (take k all)

  -- what was moved: those before, and behind them those that fit
  abbrev pub moved : List Piece → List Piece → ℕ → List Piece
  moved before all k = before ++ filter test (take k all)

  -- while a request is to be gone through, there is room for it behind either
  pub rooms : (all before : List Piece) (k : ℕ) → k < length all
      → (length (moved before all k) < length before + length all) × (length (drop 1 (staying all k)) < length all)
  rooms all before k h =
      let both = length-filter_both test (λ r. not (test r)) (λ x. refl) (take k all) in (
        simp length-append (omega (arith, both, length-take k all)),
        simp (length-drop, length-append) (omega (arith, both, length-take k all)),
      )

  -- the next request stands in front of those not yet gone through
  front : (all : List Piece) (k : ℕ) (x : Piece) → k < length all → get_or all k x ≡ x → drop k all ≡ x ∷ drop (suc k) all
  front all k x h is = drop-cons all k x h ∙ ap (λ (y : Piece). y ∷ drop (suc k) all) is

  -- and is the last of those gone through
  behind : (all : List Piece) (k : ℕ) (x : Piece) → k < length all → get_or all k x ≡ x
      → take (suc k) all ≡ take k all ++ x ∷ []
  behind all k x h is = take-suc all k x h ∙ ap (λ (y : Piece). take k all ++ y ∷ []) is

  -- the request that is gone through next
  pub staying-first : (all : List Piece) (k : ℕ) (d : Piece) → k < length all
      → slice_get (staying all k) 0 ≡ Some (get_or all k d)
  staying-first all k d h = rw (drop-cons all k d h) refl

  -- the request that was popped is that one
  pub popped-is : (all : List Piece) (k : ℕ) (x : Piece) → k < length all → Some x ≡ slice_get (staying all k) 0
      → get_or all k x ≡ x
  popped-is all k x h e = let first = staying-first all k x h in cc

  -- it fits
  pub next-fits : (all before : List Piece) (k : ℕ) (x : Piece) → k < length all → get_or all k x ≡ x → test x ≡ true
      → (staying all (k + 1) ≡ drop 1 (staying all k)) × (moved before all (k + 1) ≡ moved before all k ++ x ∷ [])
  next-fits all before k x h is fits =
      let rest = λ (r : Piece). not (test r) in
      let none : filter rest (x ∷ []) ≡ [] = rw fits refl in
      let one : filter test (x ∷ []) ≡ x ∷ [] = rw fits refl in (
        rw (add-one, behind all k x h is, front all k x h is)
            (ap (λ (ys : List Piece). drop (suc k) all ++ ys)
            (filter-append rest (take k all) (x ∷ []) ∙ rw none (append-nil (filter rest (take k all))))),
        rw (add-one, behind all k x h is)
            (ap (λ (ys : List Piece). before ++ ys) (filter-append test (take k all) (x ∷ []) ∙ rw one refl)
            ∙ sym (append_assoc before (filter test (take k all)) (x ∷ []))),
      )

  -- it stays
  pub next-stays : (all before : List Piece) (k : ℕ) (x : Piece) → k < length all → get_or all k x ≡ x → test x ≡ false
      → (staying all (k + 1) ≡ drop 1 (staying all k) ++ x ∷ []) × (moved before all (k + 1) ≡ moved before all k)
  next-stays all before k x h is stays =
      let rest = λ (r : Piece). not (test r) in
      let one : filter rest (x ∷ []) ≡ x ∷ [] = rw stays refl in
      let none : filter test (x ∷ []) ≡ [] = rw stays refl in (
        rw (add-one, behind all k x h is, front all k x h is)
            (ap (λ (ys : List Piece). drop (suc k) all ++ ys) (filter-append rest (take k all) (x ∷ []) ∙ rw one refl)
            ∙ sym (append_assoc (drop (suc k) all) (filter rest (take k all)) (x ∷ []))),
        rw (add-one, behind all k x h is)
            (ap (λ (ys : List Piece). before ++ ys)
            (filter-append test (take k all) (x ∷ []) ∙ rw none (append-nil (filter test (take k all))))),
      )

  -- all were gone through
  pub staying-all : (all : List Piece) (k : ℕ) → length all ≤ k → staying all k ≡ filter (λ r. not (test r)) all
  staying-all all k h = rw (drop_all k all h, take_all k all h) refl

  pub moved-all : (all before : List Piece) (k : ℕ) → length all ≤ k → moved before all k ≡ before ++ filter test all
  moved-all all before k h = rw (take_all k all h) refl
