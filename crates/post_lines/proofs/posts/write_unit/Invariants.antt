use Rattle.std.proofs.Common.{◌+◌, drop, map}
use Rattle.post_lines.specs.Writing.{Wrote}
use Rattle.post_lines.specs.Slots.{slot_of}
use Rattle.post_lines.specs.Lines.{unit_text}
use Rattle.post_lines.proofs.posts.write_unit.Given as goal

abbrev pub invariant-loop-place : goal.invariant-loop-place
invariant-loop-place g l =
    Wrote (g.W.Write.contents l.fn.out) (g.W.Write.contents l.out) (unit_text l.task l.unit (l.place + 1) (drop l.place (map slot_of l.slots)))
    (unit_text l.task l.unit 1 (map slot_of l.slots))
