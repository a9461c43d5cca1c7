-- A unit that one task uses has one order of its requests.
use Rattle.std.proofs.Common.{◌≡◌, ◌≢◌, ◌<◌, ◌≤◌, ◌+◌, ◌==◌, ℕ, zero, suc, Bool, true, false, if◌then◌else◌, Some, List, [], ◌∷◌, ◌++◌}
use Rattle.std.proofs.Common.{length, refl, sym, ap, ◌∙◌, arith, append-nil, inl, inr}
use Rattle.std.specs.Prelude.{slice_get}
use Rattle.std.specs.List.{list_all}
use Rattle.std.proofs.lemmas.Bool.{and_from, and_parts, cases_Bool, eqb-true}
use Rattle.std.proofs.lemmas.Bool.Decides.{nat_tests}
use Rattle.request_piece.specs.declared.piece.Piece.{Piece}
use Rattle.unit_book.specs.Lists.{Each}
use Rattle.unit_book.proofs.Lists.{filter-all}
use Rattle.fifo_row.specs.Lists.{of_sender}
use Rattle.excp_system.specs.Sites.{task_of}
use Rattle.job_script.specs.Said.{CommandSaid, Said}
use Rattle.job_run.specs.Requests.{excps, requests_from}
use Rattle.job_run.specs.OneTask.{IsOfOneTask, task_after_task, unit_after_unit}
use Rattle.job_run.specs.Orders.{IsOrder}
use mathlib.Core.Logic.{dite}
use native.Mathlib.Decide.{ℕ_discrete}

kept : (b : Bool) (r : Piece) (rs : List Piece) → b ≡ true → (if b then r ∷ rs else rs) ≡ [] → ⊥
kept true r rs is none = cc
kept false r rs is none = cc

passed : (b : Bool) (r : Piece) (rs : List Piece) → b ≡ false → (if b then r ∷ rs else rs) ≡ [] → rs ≡ []
passed true r rs is none = absurd cc
passed false r rs is none = none

-- the requests are all of one task, if none is of another
all_own : (owner tasks : ℕ) (rs : List Piece) → Each (λ r. task_of r < tasks) rs →
    ((t : ℕ) → t < tasks → t ≢ owner → of_sender task_of t rs ≡ []) → list_all (λ r. task_of r == owner) rs ≡ true
all_own owner tasks [] few none = refl
all_own owner tasks (r ∷ rs) few none =
    elim (cases_Bool (task_of r == owner)) [
      | inl own ↦
          and_from (task_of r == owner) (list_all (λ x. task_of x == owner) rs) own
          (all_own owner tasks rs few.1 (λ t within apart.
          let is : task_of r ≡ owner = eqb-true (task_of r) owner own in
          let differs : (task_of r == t) ≡ false = grind (arith, nat_tests, is, apart) in
          passed (task_of r == t) r (of_sender task_of t rs) differs (none t within apart)))
      | inr other ↦
          let apart : task_of r ≢ owner = grind (arith, nat_tests, other) in
          let same : (task_of r == task_of r) ≡ true = grind (arith, nat_tests) in
          absurd (kept (task_of r == task_of r) r (of_sender task_of (task_of r) rs) same (none (task_of r) few.0 apart))
    ]

module _ (commands : List CommandSaid) (unit : ℕ) where
  -- the requests of a task to the unit
  abbrev own_requests : ℕ → List Piece
  own_requests t = requests_from t 1 (excps t unit commands)

  none_requests : (t : ℕ) → excps t unit commands ≡ [] → own_requests t ≡ []
  unfolding requests_from
  none_requests t none = ap (requests_from t 1) none

  -- no task of several has a request
  none_after : (task tasks : ℕ) → ((t : ℕ) → task ≤ t → t < task + tasks → own_requests t ≡ []) →
      task_after_task commands unit task tasks ≡ []
  none_after task zero none = refl
  none_after task (suc tasks) none =
      ap (λ (l : List Piece). l ++ task_after_task commands unit (task + 1) tasks) (none task (omega arith) (omega arith))
      ∙ none_after (task + 1) tasks (λ t from to. none t (omega (arith, from)) (omega (arith, to)))

  -- one task has
  one_after : (owner task tasks : ℕ) → task ≤ owner → owner < task + tasks →
      ((t : ℕ) → task ≤ t → t < task + tasks → t ≢ owner → own_requests t ≡ []) →
      task_after_task commands unit task tasks ≡ own_requests owner
  one_after owner task zero from to none = absurd (omega (arith, from, to))
  one_after owner task (suc tasks) from to none = dite (ℕ_discrete task owner)
      (λ is. ap (λ (l : List Piece). own_requests task ++ l)
      (none_after (task + 1) tasks (λ t after within. none t (omega (arith, after)) (omega (arith, within))
      (λ same. omega (arith, same, after, is))))
      ∙ append-nil (own_requests task) ∙ ap own_requests is)
      (λ apart. ap (λ (l : List Piece). l ++ task_after_task commands unit (task + 1) tasks)
      (none task (omega arith) (omega arith) apart)
      ∙ one_after owner (task + 1) tasks (omega (arith, from, apart)) (omega (arith, to))
      (λ t after within. none t (omega (arith, after)) (omega (arith, within))))

-- THE ONE ORDER of a unit that one task uses: the requests of the task
pub one_order : (s : Said) (unit : ℕ) (order : List Piece) → IsOrder s unit order → IsOfOneTask s unit →
    order ≡ task_after_task s.commands unit 0 s.set_up.tasks
one_order s unit order is one = by_order order is.of_tasks is.of_each where
  none : (t : ℕ) → t < s.set_up.tasks → t ≢ one.owner → requests_from t 1 (excps t unit s.commands) ≡ []
  none t few apart = none_requests s.commands unit t (one.no_other t few apart)

  by_order : (rs : List Piece) → Each (λ r. task_of r < s.set_up.tasks) rs →
      ((t : ℕ) → t < s.set_up.tasks → of_sender task_of t rs ≡ requests_from t 1 (excps t unit s.commands)) →
      rs ≡ task_after_task s.commands unit 0 s.set_up.tasks
  by_order [] few each = sym (none_after s.commands unit 0 s.set_up.tasks (λ t from to. sym (each t (omega (arith, to)))))
  by_order (r ∷ rs) few each =
      let all : list_all (λ x. task_of x == one.owner) (r ∷ rs) ≡ true =
      all_own one.owner s.set_up.tasks (r ∷ rs) few (λ t within apart. each t within ∙ none t within apart) in
      let own = (and_parts (task_of r == one.owner) (list_all (λ x. task_of x == one.owner) rs) all).0 in
      let is_own : task_of r ≡ one.owner = eqb-true (task_of r) one.owner own in
      let within : one.owner < s.set_up.tasks = omega (arith, is_own, few.0) in
      sym (filter-all (λ x. task_of x == one.owner) (r ∷ rs) all) ∙ each one.owner within
      ∙ sym (one_after s.commands unit one.owner 0 s.set_up.tasks (omega arith) (omega (arith, within))
      (λ t from to apart. none t (omega (arith, to)) apart))

-- of each unit
pub one_order_each : (s : Said) (unit : ℕ) (orders : List (List Piece)) →
    ((k : ℕ) (order : List Piece) → slice_get orders k ≡ Some order →
    order ≡ task_after_task s.commands (unit + k) 0 s.set_up.tasks) →
    orders ≡ unit_after_unit s unit (length orders)
one_order_each s unit [] each = refl
one_order_each s unit (order ∷ orders) each =
    let zero_is : unit + 0 ≡ unit = omega arith in
    let first : order ≡ task_after_task s.commands unit 0 s.set_up.tasks =
    each 0 order refl ∙ ap (λ (u : ℕ). task_after_task s.commands u 0 s.set_up.tasks) zero_is in
    ap (λ (x : List Piece). x ∷ orders) first
    ∙ ap (λ (l : List (List Piece)). task_after_task s.commands unit 0 s.set_up.tasks ∷ l)
    (one_order_each s (unit + 1) orders (λ k x there.
    let next : unit + suc k ≡ unit + 1 + k = omega arith in
    each (suc k) x there ∙ ap (λ (u : ℕ). task_after_task s.commands u 0 s.set_up.tasks) next))
