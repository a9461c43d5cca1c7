-- WHO SERVES WHAT: each of several workers has the units or subclasses whose number has the worker's for its remainder
-- (profile).
use Rattle.std.specs.Prelude.{◌≡◌, ◌==◌, ◌%◌, ℕ, zero, suc, List, [], ◌∷◌, ◌++◌, length, Some, filter, slice_get}

-- the numbers below n, in order
unfoldable pub below : ℕ → List ℕ
below zero = []
below (suc n) = below n ++ n ∷ []

-- of these, in order, those whose number has this remainder
abbrev pub share_of : {A : Type 0} → (A → ℕ) → ℕ → ℕ → List A → List A
share_of number count remainder all = filter (λ x. (number x % count) == remainder) all

-- the first `made` workers of `count`, each with its share
pub record AreSharedSoFar {A W : Type 0} (held : W → List A) (number : A → ℕ) (count made : ℕ) (all : List A)
    (workers : List W) : Type 0 where
  pub count_is : length workers ≡ made
  pub each : (k : ℕ) (w : W) → slice_get workers k ≡ Some w → held w ≡ share_of number count k all

-- all of them
abbrev pub AreShared : {A W : Type 0} → (W → List A) → (A → ℕ) → ℕ → List A → List W → Type 0
AreShared held number count all workers = AreSharedSoFar held number count count all workers
