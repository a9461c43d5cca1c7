use Rattle.post_lines.specs.Writing.{Wrote}
use Rattle.post_lines.proofs.writing.write_text.Given as goal

abbrev pub invariant-loop : goal.invariant-loop
invariant-loop g l = Wrote (g.W.Write.contents l.fn.out) (g.W.Write.contents l.out) l.rest l.fn.text
