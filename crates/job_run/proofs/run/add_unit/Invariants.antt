use Rattle.std.proofs.Common.{◌≡◌, drop}
use Rattle.job_run.specs.Filling.{filled_at}
use Rattle.job_run.specs.Printing.{ended_slots}
use Rattle.job_run.proofs.run.add_unit.Given as goal

abbrev pub invariant-loop-posted : goal.invariant-loop-posted
invariant-loop-posted g l =
    filled_at l.unit (drop l.posted-index l.posts) (ended_slots l.end) ≡ filled_at l.unit l.posts (ended_slots l.fn.end)
