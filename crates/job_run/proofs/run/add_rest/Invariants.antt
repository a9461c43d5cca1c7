use Rattle.std.proofs.Common.{◌≡◌, ◌<◌, ◌≤◌, ℕ, length, map}
use Rattle.job_run.specs.Filling.{listed_from, slots_at}
use Rattle.post_ledger.specs.Work.{lists_of}
use Rattle.job_run.specs.Printing.{ended_slots}
use Rattle.job_run.proofs.run.add_rest.Given as goal

abbrev pub invariant-loop-task : goal.invariant-loop-task
invariant-loop-task g l = record {
  count : length l.tasks ≡ length l.fn.tasks;
  done : (t : ℕ) → t < l.task → slots_at (map ended_slots l.tasks) t
      ≡ listed_from 0 (lists_of l.report.lists t) (slots_at (map ended_slots l.fn.tasks) t);
  left : (t : ℕ) → l.task ≤ t → slots_at (map ended_slots l.tasks) t ≡ slots_at (map ended_slots l.fn.tasks) t;
}
