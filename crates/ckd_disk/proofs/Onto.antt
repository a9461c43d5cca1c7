-- A list that becomes another one, item by item, where a number of each item stays.
use Rattle.std.proofs.Common.{◌≡◌, ◌++◌, ◌∷◌, [], ℕ, ◌+◌, ◌<◌, List, ap, arith, get_or, length, map, set, sym, take, ◌∙◌}
use Rattle.std.proofs.lemmas.List.{get_or-map, length-map, map-set, set-get_or, take_more, take_more_set}

module _ {X : Type 0} (f : X → ℕ) (xs ys : List X) (sizes : map f xs ≡ map f ys) where
  pub count : length xs ≡ length ys
  count = sym (length-map xs f) ∙ ap length sizes ∙ length-map ys f

  -- the items at a place have the same number
  pub same-at : (i : ℕ) (x y : X) → i < length ys → x ≡ get_or xs i x → y ≡ get_or ys i y → f x ≡ f y
  same-at i x y lt ex ey =
      ap f ex ∙ sym (get_or-map f xs i x 0 (omega (arith, lt, count))) ∙ ap (λ (l : List ℕ). get_or l i 0) sizes
      ∙ get_or-map f ys i y 0 lt ∙ ap f (sym ey)

  -- one more item became that of the other list
  pub sizes-next : (i : ℕ) (y : X) → i < length ys → y ≡ get_or ys i y → map f (set xs i y) ≡ map f ys
  sizes-next i y lt ey =
      map-set f xs i y ∙ ap (λ (l : List ℕ). set l i (f y)) sizes
      ∙ ap (set (map f ys) i) (ap f ey ∙ sym (get_or-map f ys i y 0 lt)) ∙ set-get_or (map f ys) i 0

  pub copied-next : (i : ℕ) (y : X) → i < length ys → y ≡ get_or ys i y → take i xs ≡ take i ys →
      take (i + 1) (set xs i y) ≡ take (i + 1) ys
  copied-next i y lt ey so_far =
      take_more_set xs i y (omega (arith, lt, count)) ∙ ap (λ (l : List X). l ++ y ∷ []) so_far
      ∙ ap (λ (z : X). take i ys ++ z ∷ []) ey ∙ sym (take_more ys i y lt)
