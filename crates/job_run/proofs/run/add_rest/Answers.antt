use Rattle.std.proofs.Common.{◌≡◌, ◌<◌, ℕ, List, get_or, length, ap, ◌∙◌, arith}
use Rattle.std.proofs.lemmas.List.{length-set}
use Rattle.post_lines.specs.Slots.{SlotState}
use Rattle.job_run.specs.Filling.{listed_from}
use Rattle.post_ledger.specs.Work.{lists_of}
use Rattle.job_run.specs.Printing.{ended_slots}
use Rattle.job_run.proofs.Marks.{done_more, left_more}
use Rattle.job_run.proofs.run.add_rest.Goals as goal

pub loop-task-preserved : goal.loop-task-preserved
loop-task-preserved g c =
    let old = c.args.tasks.now in
    let now = c.loop-task.tasks in
    let k = c.loop-task.task in
    let end = get_or now k c.index-tasks-task.result in
    let is : end ≡ get_or now k end = ap (get_or now k) c.index-tasks-task.is in
    let new = c.add_listed.new.end in
    let i = c.loop-task.invariant in
    let within : k < length now = omega (arith, i.count, c.loop-task-test.true) in
    let does : ℕ → List (List SlotState) → List (List SlotState) =
    λ t slots. listed_from 0 (lists_of c.args.report.now.lists t) slots in
    record {
      count = length-set now k new ∙ i.count;
      done = done_more ended_slots does old now k end new within is c.add_listed.ensures i.left i.done;
      left = left_more ended_slots does old now k end new within is c.add_listed.ensures i.left;
    }
