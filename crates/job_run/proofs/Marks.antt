-- The slots of several tasks, of which one is changed.
use Rattle.std.proofs.lemmas.Bool.{eqb-true}
use Rattle.std.proofs.lemmas.Bool.Decides.{nat_tests}
use Rattle.std.proofs.Common.{◌≡◌, ◌≢◌, ◌<◌, ◌≤◌, ◌+◌, ◌==◌, ℕ, zero, suc, Bool, true, false, List, [], ◌∷◌, length, map, get_or, set, refl, sym, ap, ◌∙◌, arith}
use Rattle.post_lines.specs.Slots.{SlotState}
use Rattle.job_run.specs.Filling.{slots_at}

pub set_there : {X : Type 0} (f : X → List (List SlotState)) (xs : List X) (k : ℕ) (y : X) → k < length xs →
    slots_at (map f (set xs k y)) k ≡ f y
set_there f [] k y within = absurd (omega arith)
set_there f (x ∷ xs) zero y within = refl
set_there f (x ∷ xs) (suc k) y within = set_there f xs k y (omega (arith, within))

pub set_elsewhere : {X : Type 0} (f : X → List (List SlotState)) (xs : List X) (k t : ℕ) (y : X) → t ≢ k →
    slots_at (map f (set xs k y)) t ≡ slots_at (map f xs) t
set_elsewhere f [] k t y apart = refl
set_elsewhere f (x ∷ xs) zero zero y apart = absurd (apart refl)
set_elsewhere f (x ∷ xs) zero (suc t) y apart = refl
set_elsewhere f (x ∷ xs) (suc k) zero y apart = refl
set_elsewhere f (x ∷ xs) (suc k) (suc t) y apart = set_elsewhere f xs k t y (λ same. apart (ap suc same))

pub there : {X : Type 0} (f : X → List (List SlotState)) (xs : List X) (k : ℕ) (x : X) → k < length xs → x ≡ get_or xs k x →
    slots_at (map f xs) k ≡ f x
there f [] k x within is = absurd (omega arith)
there f (y ∷ xs) zero x within is = ap f (sym is)
there f (y ∷ xs) (suc k) x within is = there f xs k x (omega (arith, within)) is

-- one task after another is done
module _ {X : Type 0} (f : X → List (List SlotState)) (does : ℕ → List (List SlotState) → List (List SlotState)) (old now : List X) (k : ℕ)
    (x new : X) (within : k < length now) (is : x ≡ get_or now k x) (made : f new ≡ does k (f x))
    (left : (t : ℕ) → k ≤ t → slots_at (map f now) t ≡ slots_at (map f old) t) where
  done_by : (t : ℕ) (b : Bool) → (t == k) ≡ b → t < k + 1 →
      ((i : ℕ) → i < k → slots_at (map f now) i ≡ does i (slots_at (map f old) i)) →
      slots_at (map f (set now k new)) t ≡ does t (slots_at (map f old) t)
  done_by t true same few done =
      let at : t ≡ k = eqb-true t k same in
      ap (λ (i : ℕ). slots_at (map f (set now k new)) i) at ∙ set_there f now k new within ∙ made
      ∙ ap (does k) (sym (there f now k x within is) ∙ left k (omega arith))
      ∙ ap (λ (i : ℕ). does i (slots_at (map f old) i)) (sym at)
  done_by t false other few done =
      let apart : t ≢ k = grind (arith, nat_tests, other) in
      let before : t < k = grind (arith, nat_tests, other, few) in
      set_elsewhere f now k t new apart ∙ done t before

  pub done_more : ((i : ℕ) → i < k → slots_at (map f now) i ≡ does i (slots_at (map f old) i)) → (t : ℕ) → t < k + 1 →
      slots_at (map f (set now k new)) t ≡ does t (slots_at (map f old) t)
  done_more done t few = done_by t (t == k) refl few done

  pub left_more : (t : ℕ) → k + 1 ≤ t → slots_at (map f (set now k new)) t ≡ slots_at (map f old) t
  left_more t past =
      let apart : t ≢ k = grind (arith, past) in
      set_elsewhere f now k t new apart ∙ left t (omega (arith, past))
