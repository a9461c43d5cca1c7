-- What slots hold after posts: each the first of its number.
use Rattle.std.proofs.Common.{◌≡◌, ℕ, zero, suc, ◌+◌, ◌<◌, ◌==◌, Bool, true, false, if◌then◌else◌, Option, Some, None, List, [], ◌∷◌, refl, sym, ap, ◌∙◌, arith, inl, inr, ◌⊎◌}
use Rattle.std.proofs.lemmas.Bool.Decides.{nat_tests}
use Rattle.request_piece.specs.PostedState.{PostedState}
use Rattle.post_lines.specs.declared.end.End.{End}
use Rattle.post_lines.specs.Slots.{SlotState, change, change_from_1, filled_by, filled_slot, filled_unit}
use Rattle.job_run.specs.Printing.{first_numbered}

-- the slots of a unit with these posts, one after another
abbrev pub filled_all : List PostedState → List SlotState → List SlotState
filled_all [] slots = slots
filled_all (p ∷ ps) slots = filled_all ps (filled_unit p slots)

-- the slot with a post, if there is one
abbrev pub with_post : Option PostedState → SlotState → SlotState
with_post None slot = slot
with_post (Some p) slot = filled_slot p slot

-- what slots hold: each the first post of its number, which is k for the first slot
abbrev pub posted_from : ℕ → List PostedState → List SlotState → List SlotState
posted_from k ps [] = []
posted_from k ps (slot ∷ slots) = with_post (first_numbered k ps) slot ∷ posted_from (k + 1) ps slots

-- a slot that was filled stays
stays_by : (p q : PostedState) (s : SlotState) (e : Option End) → s.end ≡ e → filled_slot q (filled_by p s e) ≡ filled_by p s e
stays_by p q s None is = refl
stays_by p q s (Some end) is = ap (filled_by q s) is

stays : (p q : PostedState) (s : SlotState) → filled_slot q (filled_slot p s) ≡ filled_slot p s
stays p q s = stays_by p q s s.end refl

stays_with : (p : PostedState) (o : Option PostedState) (s : SlotState) → with_post o (filled_slot p s) ≡ filled_slot p s
stays_with p None s = refl
stays_with p (Some q) s = stays p q s

chosen : (b : Bool) (p : PostedState) (o : Option PostedState) → b ≡ true → (if b then Some p else o) ≡ Some p
chosen true p o e = refl
chosen false p o e = absurd (cc e)

passed : (b : Bool) (p : PostedState) (o : Option PostedState) → b ≡ false → (if b then Some p else o) ≡ o
passed true p o e = absurd (cc e)
passed false p o e = refl

first-own : (k : ℕ) (p : PostedState) (ps : List PostedState) → p.name.seq ≡ k → first_numbered k (p ∷ ps) ≡ Some p
first-own k p ps e =
    let own : (p.name.seq == k) ≡ true = grind (arith, nat_tests, e) in chosen (p.name.seq == k) p (first_numbered k ps) own

first-other : (k : ℕ) (p : PostedState) (ps : List PostedState) → p.name.seq < k ⊎ k < p.name.seq →
    first_numbered k (p ∷ ps) ≡ first_numbered k ps
first-other k p ps h =
    let other : (p.name.seq == k) ≡ false = grind (arith, nat_tests, h) in passed (p.name.seq == k) p (first_numbered k ps) other

-- a post with a smaller number changes nothing
before : (k : ℕ) (p : PostedState) (ps : List PostedState) (slots : List SlotState) → p.name.seq < k →
    posted_from k (p ∷ ps) slots ≡ posted_from k ps slots
before k p ps [] h = refl
before k p ps (s ∷ ss) h =
    ap (λ (o : Option PostedState). with_post o s ∷ posted_from (k + 1) (p ∷ ps) ss) (first-other k p ps (inl h))
    ∙ ap (λ (l : List SlotState). with_post (first_numbered k ps) s ∷ l) (before (k + 1) p ps ss (omega arith))

-- a post is filled in at its number
at : (i k : ℕ) (p : PostedState) (ps : List PostedState) (slots : List SlotState) → p.name.seq ≡ k + i →
    posted_from k (p ∷ ps) slots ≡ posted_from k ps (change (filled_slot p) i slots)
at i k p ps [] e = refl
at zero k p ps (s ∷ ss) e =
    let own : p.name.seq ≡ k = omega arith in
    let small : p.name.seq < k + 1 = omega arith in
    ap (λ (o : Option PostedState). with_post o s ∷ posted_from (k + 1) (p ∷ ps) ss) (first-own k p ps own)
    ∙ ap (λ (l : List SlotState). filled_slot p s ∷ l) (before (k + 1) p ps ss small)
    ∙ ap (λ (x : SlotState). x ∷ posted_from (k + 1) ps ss) (sym (stays_with p (first_numbered k ps) s))
at (suc i) k p ps (s ∷ ss) e =
    let large : k < p.name.seq = omega arith in
    let next : p.name.seq ≡ k + 1 + i = omega arith in
    ap (λ (o : Option PostedState). with_post o s ∷ posted_from (k + 1) (p ∷ ps) ss) (first-other k p ps (inr large))
    ∙ ap (λ (l : List SlotState). with_post (first_numbered k ps) s ∷ l) (at i (k + 1) p ps ss next)

none : (k : ℕ) (slots : List SlotState) → posted_from k [] slots ≡ slots
none k [] = refl
none k (s ∷ ss) = ap (λ (l : List SlotState). s ∷ l) (none (k + 1) ss)

one_by : (n : ℕ) (p : PostedState) (ps : List PostedState) (slots : List SlotState) → p.name.seq ≡ n →
    posted_from 1 (p ∷ ps) slots ≡ posted_from 1 ps (change_from_1 (filled_slot p) n slots)
one_by zero p ps slots e = before 1 p ps slots (omega arith)
one_by (suc n) p ps slots e = at n 1 p ps slots (omega arith)

-- POSTS THAT WERE FILLED IN one after another: each slot has the first of its number
pub holds_firsts : (ps : List PostedState) (slots : List SlotState) → filled_all ps slots ≡ posted_from 1 ps slots
holds_firsts [] slots = sym (none 1 slots)
holds_firsts (p ∷ ps) slots = holds_firsts ps (filled_unit p slots) ∙ sym (one_by p.name.seq p ps slots refl)
