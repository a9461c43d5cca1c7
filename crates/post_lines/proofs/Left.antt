-- What is left of a list from a place on.
use Rattle.std.proofs.Common.{◌≡◌, ℕ, zero, suc, ◌+◌, ◌<◌, List, [], ◌∷◌, length, map, drop, get_or, sym, ap, ◌∙◌, arith}

from_place : {X Y : Type 0} (f : X → Y) (xs : List X) (k : ℕ) (x : X) → k < length xs → x ≡ get_or xs k x →
    drop k (map f xs) ≡ f x ∷ drop (suc k) (map f xs)
from_place f [] k x within is = absurd (omega arith)
from_place f (y ∷ ys) zero x within is = ap (λ v. f v ∷ map f ys) (sym is)
from_place f (y ∷ ys) (suc k) x within is = from_place f ys k x (omega (arith, within)) is

-- what is left from a place on begins with what is at the place
pub next_of : {X Y : Type 0} (f : X → Y) (xs : List X) (k : ℕ) (x : X) → k < length xs → x ≡ get_or xs k x →
    drop k (map f xs) ≡ f x ∷ drop (k + 1) (map f xs)
next_of f xs k x within is =
    let plus : suc k ≡ k + 1 = omega arith in
    from_place f xs k x within is ∙ ap (λ (i : ℕ). f x ∷ drop i (map f xs)) plus
