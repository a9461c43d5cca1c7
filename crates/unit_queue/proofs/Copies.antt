-- A copy of a list, made from its front on.
use Rattle.std.proofs.Common.{◌≡◌, ℕ, ◌+◌, List, [], ◌∷◌, ◌++◌, take, slice_get, Some, refl, sym, add-one}
use Rattle.std.proofs.lemmas.Option.{get_or_from_slice_get, slice_get_within}
use Rattle.std.proofs.Math.Seq.{take-suc}

-- the element at a place is the next one of the copy
pub take-next : {X : Type 0} (xs : List X) (k : ℕ) (x : X) → Some x ≡ slice_get xs k → take (k + 1) xs ≡ take k xs ++ x ∷ []
take-next xs k x h =
    let within = slice_get_within xs k x (sym h) in
    rw (add-one k, take-suc xs k x within, get_or_from_slice_get xs k x x (sym h)) refl
