-- Without controls, code 48 means that a related request to the DCB ended in error before: a script opens each DCB that it names.
use Rattle.std.proofs.Common.{◌≡◌, ◌≤◌, ◌<◌, ◌+◌, ◌==◌, ℕ, zero, suc, Bool, true, false, if◌then◌else◌, Some, Result, Ok, Err}
use Rattle.std.proofs.Common.{List, [], ◌∷◌, ◌++◌, length, refl, sym, subst, ap, ◌∙◌, arith}
use Rattle.std.specs.Prelude.{nat_le, slice_get}
use Rattle.std.proofs.lemmas.Bool.{eq-eqb, eqb-true}
use Rattle.std.proofs.lemmas.Bool.Decides.{nat_tests}
use Rattle.request_piece.specs.PostedState.{PostedState}
use Rattle.request_piece.specs.declared.piece.Piece.{Piece}
use Rattle.any_device.specs.Devices.{any_device}
use Rattle.unit_book.specs.Dcbs.{is_opened, openings}
use Rattle.unit_book.specs.Lists.{Each}
use Rattle.unit_book.proofs.Facts.{Each-at}
use Rattle.unit_book.specs.declared.entry.Entry.{Entry}
use Rattle.serial_order.specs.Laws.{FollowsError}
use Rattle.serial_order.proofs.InOrder.{serves-in-order}
use Rattle.serial_order.proofs.Uncontrolled.{opened-is}
use Rattle.fifo_row.specs.Lists.{of_sender}
use Rattle.excp_system.specs.Sites.{task_of}
use Rattle.job_script.specs.declared.command.DcbName.{DcbName}
use Rattle.job_script.specs.declared.fault.FaultName.{FaultName}
use Rattle.job_script.specs.declared.fault.FaultName.TheVariants as names
use Rattle.job_script.specs.Adding.{is_dcb, numbered}
use Rattle.job_script.specs.Steps.{◌>>=◌}
use Rattle.job_script.specs.Said.{ActionSaid, CommandSaid, ExcpSaid, SetUpSaid, UnitSaid, close, excp, purge, purge_task, reset, wait}
use Rattle.job_run.specs.Laws.{PurgesAfterErrors}
use Rattle.job_run.specs.Requests.{excp_to, excps, requests_from}
use Rattle.job_run.proofs.Declared.{IsDcb, NamesDcb, are_declared}
use Rattle.job_run.proofs.Opens.{HasDcbs, books_open}

unit_numbered : (n : ℕ) (units : List UnitSaid) (u : UnitSaid) → slice_get units n ≡ Some u → numbered n units ≡ Ok u
unfolding numbered
unit_numbered n [] u at = absurd (cc at)
unit_numbered zero (x ∷ units) u at = cc at
unit_numbered (suc n) (x ∷ units) u at = unit_numbered n units u at

declared_if : Bool → Result (Unit {0}) FaultName
declared_if b = if b then Ok tt else Err names.Name

within : (dcb : DcbName) (s : SetUpSaid) (u : UnitSaid) → numbered dcb.unit s.units ≡ Ok u → is_dcb dcb s ≡ Ok tt →
    dcb.number ≤ length u.openings
unfolding is_dcb declared_if
within dcb s u at is =
    few (nat_le dcb.number (length u.openings)) refl
    (ap (λ (r : Result UnitSaid FaultName). r >>= λ unit. declared_if (nat_le dcb.number (length unit.openings)))
    (sym at) ∙ is)
  where
    few : (b : Bool) → nat_le dcb.number (length u.openings) ≡ b → declared_if b ≡ Ok tt →
        dcb.number ≤ length u.openings
    few true le ok = grind (arith, nat_tests, le)
    few false le ok = absurd cc

module _ (s : SetUpSaid) (unit : ℕ) (H : List Entry) (declared : UnitSaid) (at : slice_get s.units unit ≡ Some declared)
    (has : HasDcbs (length declared.openings) H) where
  -- the DCB of the EXCP is open
  abbrev HasItsDcb : ExcpSaid → Type 0
  HasItsDcb e = is_opened e.dcb.number H ≡ true

  dcb_open : (dcb : DcbName) → IsDcb s dcb → dcb.unit ≡ unit → is_opened dcb.number H ≡ true
  dcb_open dcb is own =
      has.are_open dcb.number is.counted
      (within dcb s declared (ap (λ (n : ℕ). numbered n s.units) own ∙ unit_numbered unit s.units declared at) is.declared)

  of_action : (a : ActionSaid) → NamesDcb s a → Each HasItsDcb (excp_to unit a)
  of_action (excp e) names = by_unit (e.dcb.unit == unit) refl where
    by_unit : (b : Bool) → (e.dcb.unit == unit) ≡ b → Each HasItsDcb (if b then e ∷ [] else [])
    by_unit true own = (dcb_open e.dcb names (eqb-true e.dcb.unit unit own), tt)
    by_unit false own = tt
  of_action (purge dcb mode) names = tt
  of_action (purge_task other mode) names = tt
  of_action (close dcb) names = tt
  of_action (reset dcb) names = tt
  of_action wait names = tt

  joined : (b : Bool) (xs ys : List ExcpSaid) → Each HasItsDcb xs → Each HasItsDcb ys → Each HasItsDcb ((if b then xs else []) ++ ys)
  joined false xs ys each rest = rest
  joined true [] ys each rest = rest
  joined true (x ∷ xs) ys each rest = (each.0, joined true xs ys each.1 rest)

  excps_open : (task : ℕ) (commands : List CommandSaid) → Each (λ c. NamesDcb s c.action) commands →
      Each HasItsDcb (excps task unit commands)
  unfolding excps
  excps_open task [] each = tt
  excps_open task (c ∷ commands) each =
      joined (c.task == task) (excp_to unit c.action) (excps task unit commands) (of_action c.action each.0)
      (excps_open task commands each.1)

  requests_open : (task k : ℕ) (es : List ExcpSaid) → Each HasItsDcb es → Each (λ r. is_opened r.dcb H ≡ true) (requests_from task k es)
  unfolding requests_from
  requests_open task k [] each = tt
  requests_open task k (e ∷ es) each = (each.0, requests_open task (k + 1) es each.1)

-- what holds of each request of its task holds of a request
of_its_task : (P : Piece → Type 0) (order : List Piece) (at : ℕ) (r : Piece) → Each P (of_sender task_of (task_of r) order) →
    slice_get order at ≡ Some r → P r
of_its_task P [] at r each is = absurd (cc is)
of_its_task P (x ∷ order) zero r each is =
    let same : x ≡ r = cc is in
    let own : (task_of x == task_of r) ≡ true = eq-eqb (task_of x) (task_of r) (ap (λ (y : Piece). task_of y) same) in
    subst P same (first (task_of x == task_of r) own each) where
      first : (b : Bool) → b ≡ true → Each P (if b then x ∷ of_sender task_of (task_of r) order else of_sender task_of (task_of r) order) → P x
      first true own each = each.0
      first false own each = absurd cc
of_its_task P (x ∷ order) (suc at) r each is = of_its_task P order at r (rest (task_of x == task_of r) each) is where
  rest : (b : Bool) → Each P (if b then x ∷ of_sender task_of (task_of r) order else of_sender task_of (task_of r) order) →
      Each P (of_sender task_of (task_of r) order)
  rest true each = each.1
  rest false each = each

-- CODE 48 without controls
pub purged_after_errors : PurgesAfterErrors
purged_after_errors unit order posts at r v q code =
    let open_ones = books_open q.given q.capacity q.s q.books q.mounted unit q.first q.is_first in
    let few : task_of r < q.s.set_up.tasks = Each-at (λ x. task_of x < q.s.set_up.tasks) order at r q.is_order.of_tasks q.request in
    let each : Each (λ x. is_opened x.dcb q.first.trace ≡ true) (of_sender task_of (task_of r) order) =
    subst (Each (λ x. is_opened x.dcb q.first.trace ≡ true)) (sym (q.is_order.of_each (task_of r) few))
    (requests_open q.s.set_up unit q.first.trace open_ones.declared open_ones.is open_ones.has (task_of r) 1
    (excps (task_of r) unit q.s.commands)
    (excps_open q.s.set_up unit q.first.trace open_ones.declared open_ones.is open_ones.has (task_of r) q.s.commands
    (are_declared q.script q.s q.parsed))) in
    let opened : is_opened r.dcb (openings q.first.trace) ≡ true =
    opened-is r.dcb q.first.trace ∙ of_its_task (λ x. is_opened x.dcb q.first.trace ≡ true) order at r each q.request in
    let served = ap (λ (l : List PostedState). slice_get l at) (sym q.posts_are) ∙ q.posted in
    subst (λ (l : List PostedState). (r.related ≡ true) × FollowsError order l at r) (sym q.posts_are)
    ((serves-in-order any_device).purged q.first.mounted (openings q.first.trace) order at r v q.request served code opened)
