-- What filling does to the slots of one unit.
use Rattle.std.proofs.Common.{◌≡◌, ◌≢◌, ℕ, zero, suc, ◌+◌, ◌<◌, ◌==◌, Bool, true, false, if◌then◌else◌, List, [], ◌∷◌, ◌++◌, length, get_or, refl, sym, ap, ◌∙◌, arith}
use Rattle.std.proofs.lemmas.Bool.{eqb-true}
use Rattle.std.proofs.lemmas.Bool.Decides.{nat_tests}
use Rattle.request_piece.specs.PostedState.{PostedState}
use Rattle.fifo_row.specs.Lists.{of_sender}
use Rattle.excp_system.specs.Sites.{unit_of}
use Rattle.post_lines.specs.Slots.{SlotState, change, change_from_1, filled, filled_by_all, filled_slot, filled_unit}
use Rattle.job_run.specs.Filling.{filled_at, listed_from}
use Rattle.job_run.proofs.Firsts.{filled_all}

-- what is at a unit
abbrev pub at : {X : Type 0} → List (List X) → ℕ → List X
at slots unit = get_or slots unit []

pub changed_in : {X : Type 0} (f : List X → List X) (k : ℕ) (xs : List (List X)) → k < length xs → at (change f k xs) k ≡ f (at xs k)
changed_in f k [] within = absurd (omega arith)
changed_in f zero (x ∷ xs) within = refl
changed_in f (suc k) (x ∷ xs) within = changed_in f k xs (omega (arith, within))

changed_at : {X : Type 0} (f : List X → List X) → f [] ≡ [] → (k : ℕ) (xs : List (List X)) → at (change f k xs) k ≡ f (at xs k)
changed_at f none k [] = sym none
changed_at f none zero (x ∷ xs) = refl
changed_at f none (suc k) (x ∷ xs) = changed_at f none k xs

pub changed_other : {X : Type 0} (f : List X → List X) (k u : ℕ) (xs : List (List X)) → u ≢ k → at (change f k xs) u ≡ at xs u
changed_other f k u [] apart = refl
changed_other f zero zero (x ∷ xs) apart = absurd (apart refl)
changed_other f zero (suc u) (x ∷ xs) apart = refl
changed_other f (suc k) zero (x ∷ xs) apart = refl
changed_other f (suc k) (suc u) (x ∷ xs) apart = changed_other f k u xs (λ same. apart (ap suc same))

pub changed_length : {X : Type 0} (f : X → X) (k : ℕ) (xs : List X) → length (change f k xs) ≡ length xs
changed_length f k [] = refl
changed_length f zero (x ∷ xs) = refl
changed_length f (suc k) (x ∷ xs) = ap suc (changed_length f k xs)

none_by : (f : SlotState → SlotState) (n : ℕ) → change_from_1 f n [] ≡ []
none_by f zero = refl
none_by f (suc n) = refl

filled_same : (k : ℕ) (p : PostedState) (slots : List (List SlotState)) → at (filled k p slots) k ≡ filled_unit p (at slots k)
filled_same k p slots = changed_at (filled_unit p) (none_by (filled_slot p) p.name.seq) k slots

-- posts, each at its unit
one_at : (u : ℕ) (p : PostedState) (ps : List PostedState) (slots : List (List SlotState)) (b : Bool) → (p.unit == u) ≡ b →
    filled_all ps (at (filled p.unit p slots) u) ≡ filled_all (if b then p ∷ ps else ps) (at slots u)
one_at u p ps slots true same =
    let is : p.unit ≡ u = eqb-true p.unit u same in
    ap (λ (k : ℕ). filled_all ps (at (filled k p slots) u)) is ∙ ap (filled_all ps) (filled_same u p slots)
one_at u p ps slots false other =
    let apart : u ≢ p.unit = grind (arith, nat_tests, other) in
    ap (filled_all ps) (changed_other (filled_unit p) p.unit u slots apart)

pub by_all_at : (ps : List PostedState) (slots : List (List SlotState)) (u : ℕ) →
    at (filled_by_all ps slots) u ≡ filled_all (of_sender unit_of u ps) (at slots u)
by_all_at [] slots u = refl
by_all_at (p ∷ ps) slots u = by_all_at ps (filled p.unit p slots) u ∙ one_at u p (of_sender unit_of u ps) slots (p.unit == u) refl

pub by_all_length : (ps : List PostedState) (slots : List (List SlotState)) → length (filled_by_all ps slots) ≡ length slots
by_all_length [] slots = refl
by_all_length (p ∷ ps) slots = by_all_length ps (filled p.unit p slots) ∙ changed_length (filled_unit p) p.unit slots

-- posts of one unit
filled_at_same : (k : ℕ) (ps : List PostedState) (slots : List (List SlotState)) → at (filled_at k ps slots) k ≡ filled_all ps (at slots k)
filled_at_same k [] slots = refl
filled_at_same k (p ∷ ps) slots = filled_at_same k ps (filled k p slots) ∙ ap (filled_all ps) (filled_same k p slots)

filled_at_other : (k u : ℕ) (ps : List PostedState) (slots : List (List SlotState)) → u ≢ k → at (filled_at k ps slots) u ≡ at slots u
filled_at_other k u [] slots apart = refl
filled_at_other k u (p ∷ ps) slots apart =
    filled_at_other k u ps (filled k p slots) apart ∙ changed_other (filled_unit p) k u slots apart

filled_at_length : (k : ℕ) (ps : List PostedState) (slots : List (List SlotState)) → length (filled_at k ps slots) ≡ length slots
filled_at_length k [] slots = refl
filled_at_length k (p ∷ ps) slots = filled_at_length k ps (filled k p slots) ∙ changed_length (filled_unit p) k slots

-- posts that are listed
listed_past : (lists : List (List PostedState)) (unit u : ℕ) (slots : List (List SlotState)) → u < unit →
    at (listed_from unit lists slots) u ≡ at slots u
listed_past [] unit u slots before = refl
listed_past (posts ∷ lists) unit u slots before =
    let apart : u ≢ unit = grind (arith, before) in
    listed_past lists (unit + 1) u (filled_at unit posts slots) (omega (arith, before)) ∙ filled_at_other unit u posts slots apart

pub listed_at : (lists : List (List PostedState)) (unit u i : ℕ) (slots : List (List SlotState)) → u ≡ unit + i →
    at (listed_from unit lists slots) u ≡ filled_all (at lists i) (at slots u)
listed_at [] unit u i slots is = refl
listed_at (posts ∷ lists) unit u zero slots is =
    let same : u ≡ unit = omega (arith, is) in
    listed_past lists (unit + 1) u (filled_at unit posts slots) (omega (arith, is))
    ∙ ap (λ (k : ℕ). at (filled_at unit posts slots) k) same ∙ filled_at_same unit posts slots
    ∙ ap (λ (k : ℕ). filled_all posts (at slots k)) (sym same)
listed_at (posts ∷ lists) unit u (suc i) slots is =
    let apart : u ≢ unit = grind (arith, is) in
    listed_at lists (unit + 1) u i (filled_at unit posts slots) (omega (arith, is))
    ∙ ap (filled_all (at lists i)) (filled_at_other unit u posts slots apart)

pub listed_length : (lists : List (List PostedState)) (unit : ℕ) (slots : List (List SlotState)) →
    length (listed_from unit lists slots) ≡ length slots
listed_length [] unit slots = refl
listed_length (posts ∷ lists) unit slots =
    listed_length lists (unit + 1) (filled_at unit posts slots) ∙ filled_at_length unit posts slots

pub all-append : (xs ys : List PostedState) (slots : List SlotState) → filled_all (xs ++ ys) slots ≡ filled_all ys (filled_all xs slots)
all-append [] ys slots = refl
all-append (x ∷ xs) ys slots = all-append xs ys (filled_unit x slots)
