use Rattle.std.proofs.Common.{drop}
use Rattle.post_lines.specs.Writing.{Wrote}
use Rattle.post_lines.specs.Slots.{slots_of}
use Rattle.post_lines.specs.Lines.{task_text, units_text}
use Rattle.post_lines.proofs.posts.write_task.Given as goal

abbrev pub invariant-loop-unit : goal.invariant-loop-unit
invariant-loop-unit g l =
    Wrote (g.W.Write.contents l.fn.out) (g.W.Write.contents l.out) (units_text l.task l.unit (drop l.unit (slots_of l.slots)))
    (task_text l.task (slots_of l.slots))
