-- What the tasks of a run did, and what its report tells of them.
use Rattle.std.proofs.Common.{◌≡◌, ℕ, List, [], ◌++◌, length, map, Some, None, Option, sym, ap, ◌∙◌, subst}
use Rattle.std.specs.Prelude.{slice_get}
use Rattle.std.proofs.lemmas.List.{append-nil, length-map}
use Rattle.device_port.specs.Meaning.{Meaning}
use Rattle.request_piece.specs.PostedState.{PostedState}
use Rattle.fifo_row.specs.Lists.{of_sender}
use Rattle.excp_system.specs.Opening.{AreTasks, fresh_task}
use Rattle.excp_system.specs.Sites.{unit_of}
use Rattle.excp_system.specs.States.{TaskState}
use Rattle.excp_system.proofs.Places.{some_is}
use Rattle.post_ledger.specs.Parting.{Paired}
use Rattle.post_ledger.specs.Report.{ReportState, Returned, ReturnedRest}
use Rattle.post_ledger.specs.Work.{CollectsAll}
use Rattle.post_ledger.proofs.Endings.{returned_first}
use Rattle.post_ledger.proofs.Pairs.{get_map, get_there, map_get}
use Rattle.system_threads.specs.Running.{AreRun, HasRun}

-- runners of fresh tasks that have run, and that were parted into tasks and outcomes
pub are_run : {R O : Type 0} (client : R → TaskState) (outcome : R → Option O) (runs : TaskState → TaskState → O → Type 0)
    (units count : ℕ) (first tasks : List TaskState) (before after : List R) (outcomes : List O) →
    AreTasks count units first → map client before ≡ first →
    Paired (λ old new. HasRun runs (client old) (client new) (outcome new)) before after →
    tasks ≡ map client after → map Some outcomes ≡ map outcome after → AreRun runs units tasks outcomes
are_run {R} {O} client outcome runs units count first tasks before after outcomes fresh clients paired tasks_are outcomes_are = record {
  count_is = sym (length-map outcomes Some) ∙ (ap length outcomes_are ∙ (length-map after outcome
      ∙ (sym (length-map after client) ∙ ap length (sym tasks_are))));
  each = λ t w o at at'.
      let new = get_map client after t w (ap (λ l. slice_get l t) (sym tasks_are) ∙ at) in
      let old = get_there before after t new.0 paired.count new.1 in
      let left : Some o ≡ outcome new.0 = some_is (Some o) (outcome new.0) (sym (map_get Some outcomes t o at')
      ∙ (ap (λ l. slice_get l t) outcomes_are ∙ map_get outcome after t new.0 new.1)) in
      let began : client old.0 ≡ fresh_task units t = fresh.each t (client old.0)
      (ap (λ l. slice_get l t) (sym clients) ∙ map_get client before t old.0 old.1) in
      subst (λ (q : TaskState × (TaskState × Option O)). HasRun runs q.0 q.1.0 q.1.1) (λ i. (began i, (sym new.2 i, sym left i)))
      (paired.each t old.0 new.0 old.1 new.1);
}

-- a report that was made at the second try, of all that the tasks collected
pub returned_later : {D : Type 0} (meaning : Meaning D) (units : ℕ) (first tasks : List TaskState) (after : List (List (List PostedState)))
    (report : ReportState D) → CollectsAll units first tasks [] after → length report.books ≡ units →
    ReturnedRest meaning after report tasks → Returned meaning report first
returned_later meaning units first tasks after report c count r u t b w e e' =
    returned_first units first tasks [] after c report meaning count r u t b w e e' (of_sender unit_of u w.got) (sym (append-nil _))
