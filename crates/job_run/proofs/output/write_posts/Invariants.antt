use Rattle.std.proofs.Common.{drop, map}
use Rattle.post_lines.specs.Writing.{Wrote}
use Rattle.job_run.specs.Printing.{ended_slots, tasks_text}
use Rattle.job_run.proofs.output.write_posts.Given as goal

abbrev pub invariant-loop-task : goal.invariant-loop-task
invariant-loop-task g l =
    Wrote (g.W.Write.contents l.fn.out) (g.W.Write.contents l.out) (tasks_text l.task (drop l.task (map ended_slots l.tasks)))
    (tasks_text 0 (map ended_slots l.tasks))
