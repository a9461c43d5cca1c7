-- Lists that are changed at a place.
use Rattle.std.proofs.Common.{◌≡◌, ℕ, zero, suc, ◌-◌, ◌<◌, ◌≤◌, ◌⊎◌, inl, inr, List, [], ◌∷◌, length, set, map, get_or, refl, sym, ap, ◌∙◌, arith}
use Rattle.post_lines.specs.Slots.{change, change_from_1}

-- the k-th, counted from 0
pub change-set : {X Y : Type 0} (f : Y → Y) (g : X → Y) (xs : List X) (k : ℕ) (x y : X) → k < length xs → x ≡ get_or xs k x →
    g y ≡ f (g x) → map g (set xs k y) ≡ change f k (map g xs)
change-set f g [] k x y within is e = absurd (omega arith)
change-set f g (z ∷ xs) zero x y within is e = ap (λ v. v ∷ map g xs) (e ∙ ap (λ v. f (g v)) is)
change-set f g (z ∷ xs) (suc k) x y within is e = ap (λ v. g z ∷ v) (change-set f g xs k x y (omega arith) is e)

pub change-past : {X : Type 0} (f : X → X) (xs : List X) (k : ℕ) → length xs ≤ k → change f k xs ≡ xs
change-past f [] k past = refl
change-past f (x ∷ xs) zero past = absurd (omega arith)
change-past f (x ∷ xs) (suc k) past = ap (λ v. x ∷ v) (change-past f xs k (omega arith))

-- the n-th, counted from 1
pub change_from_1-set : {X Y : Type 0} (f : Y → Y) (g : X → Y) (xs : List X) (n k : ℕ) (x y : X) → 0 < n → k ≡ n - 1 → k < length xs →
    x ≡ get_or xs k x → g y ≡ f (g x) → map g (set xs k y) ≡ change_from_1 f n (map g xs)
change_from_1-set f g xs zero k x y some place within is e = absurd (omega arith)
change_from_1-set f g xs (suc n) k x y some place within is e =
    let at : k ≡ n = omega arith in change-set f g xs k x y within is e ∙ ap (λ (i : ℕ). change f i (map g xs)) at

pub change_from_1-past : {X : Type 0} (f : X → X) (xs : List X) (n : ℕ) → (0 < n × length xs < n) ⊎ (n ≤ 0) → xs ≡ change_from_1 f n xs
change_from_1-past f xs zero e = refl
change_from_1-past f xs (suc n) (inl e) = let out : length xs ≤ n = omega (arith, e.1) in sym (change-past f xs n out)
change_from_1-past f xs (suc n) (inr e) = absurd (omega (arith, e))
