use Rattle.std.specs.Slice.Iter.{iter_rest}
use Rattle.aws_tape.proofs.Written.{Wrote}
use Rattle.medium_image.specs.Paper.{lines_text, paper_text}
use Rattle.medium_image.proofs.paper.write_paper.Given as goal

abbrev pub invariant-loop-line : goal.invariant-loop-line
invariant-loop-line g l =
    Wrote (g.W.Write.contents l.fn.out) (g.W.Write.contents l.out)
    (lines_text l.is_printed l.at (iter_rest l.line-iterator) l.printer.at) (paper_text l.printer)
