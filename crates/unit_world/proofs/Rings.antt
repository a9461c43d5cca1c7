-- Rings beside the lists that contracts see.
use Rattle.std.proofs.Common.{◌≡◌, ◌<◌, ◌≤◌, ℕ, zero, suc, List, [], ◌∷◌, length, map, set, get_or, replicate, refl, sym, ap, ◌∙◌, arith}
use Rattle.std.specs.Prelude.{◌↔◌, slice_index_or, slice_set, IsOk, OnErr}
use Rattle.std.proofs.lemmas.List.{map-set, get_or-map}
use Rattle.std.specs.declared.result.Result.{Result}
use Rattle.std.specs.declared.result.Result.TheVariants.{Ok, Err}
use Rattle.std.proofs.lemmas.Bool.{false≢true}
use mathlib.Core.Logic.{dite}
use native.Mathlib.Decide.{dec_lt}
use Rattle.circular_buffer.specs.Buffer.{Buffer, buffer}
use Rattle.request_piece.specs.PostedState.{PostedState}
use Rattle.unit_book.specs.Lists.{Each}

-- the lists of these rings
abbrev pub lists_of : List (Buffer PostedState) → List (List PostedState)
lists_of rings = map (λ r. r.items) rings

-- what holds of each ring holds of the one at a place
pub Each-at : {X : Type 0} (P : X → Type 0) (xs : List X) (i : ℕ) (d : X) → i < length xs → Each P xs → P (get_or xs i d)
Each-at P [] i d lt h = absurd (omega (arith, lt))
Each-at P (x ∷ xs) zero d lt h = h.0
Each-at P (x ∷ xs) (suc i) d lt h = Each-at P xs i d (omega (arith, lt)) h.1

-- empty rings have empty lists
pub lists-replicate : (n : ℕ) (room : ℕ) → lists_of (replicate n (buffer [] room)) ≡ replicate n []
lists-replicate zero room = refl
lists-replicate (suc n) room = ap (λ l. [] ∷ l) (lists-replicate n room)

-- what was refused had no room
pub refused : {A E : Type 0} (r : Result A E) (len capacity room count : ℕ) → (IsOk r ↔ (len < capacity)) → capacity ≡ room → count ≡ len →
    OnErr r (room ≤ count)
refused (Ok a) len capacity room count h e n = tt
refused (Err x) len capacity room count h e n = dite (dec_lt len capacity) (λ lt. absurd (false≢true (h.1 lt)))
    (λ no. omega (arith, no, e, n))

module _ (rings : List (Buffer PostedState)) (i k : ℕ) (here : i ≡ k) (lt : k < length rings) (ring : Buffer PostedState)
    (is : ring ≡ get_or rings i ring) where
  -- the ring at a place has the list there
  pub list-is : slice_index_or (lists_of rings) k [] ≡ ring.items
  list-is =
      get_or-map (λ (r : Buffer PostedState). r.items) rings k ring [] lt
      ∙ sym (ap (λ (r : Buffer PostedState). r.items) (is ∙ ap (λ j. get_or rings j ring) here))

  -- and another ring, another list
  pub put-is : (new : Buffer PostedState) (items : List PostedState) → new.items ≡ items →
      lists_of (set rings i new) ≡ slice_set (lists_of rings) k items
  put-is new items e =
      map-set (λ (r : Buffer PostedState). r.items) rings i new
      ∙ (ap (λ j. set (lists_of rings) j new.items) here ∙ ap (set (lists_of rings) k) e)

  pub room-is : (room : ℕ) → Each (λ r. r.capacity ≡ room) rings → ring.capacity ≡ room
  room-is room h =
      ap (λ (r : Buffer PostedState). r.capacity) (is ∙ ap (λ j. get_or rings j ring) here)
      ∙ Each-at (λ (r : Buffer PostedState). r.capacity ≡ room) rings k ring lt h
