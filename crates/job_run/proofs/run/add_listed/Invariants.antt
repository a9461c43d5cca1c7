use Rattle.std.proofs.Common.{◌≡◌, drop}
use Rattle.job_run.specs.Filling.{listed_from}
use Rattle.post_ledger.specs.Work.{lists_of}
use Rattle.job_run.specs.Printing.{ended_slots}
use Rattle.job_run.proofs.run.add_listed.Given as goal

abbrev pub invariant-loop-unit : goal.invariant-loop-unit
invariant-loop-unit g l =
    listed_from l.unit (drop l.unit (lists_of l.report.lists l.task)) (ended_slots l.end)
    ≡ listed_from 0 (lists_of l.report.lists l.task) (ended_slots l.fn.end)
