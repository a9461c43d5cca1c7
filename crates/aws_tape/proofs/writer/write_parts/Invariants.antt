use Rattle.std.proofs.Common.{◌≡◌, ◌≤◌, length}
use Rattle.aws_tape.specs.Layout.{bytes_in}
use Rattle.aws_tape.specs.Writing.{chunks_of, last_length}
use Rattle.aws_tape.proofs.Written.{Wrote}
use Rattle.aws_tape.proofs.writer.write_parts.Given as goal

abbrev pub invariant-loop-part : goal.invariant-loop-part
invariant-loop-part g l = record {
  wrote : Wrote (g.W.Write.contents l.fn.writer) (g.W.Write.contents l.writer) (chunks_of l.before l.first l.left l.rest)
      (chunks_of l.fn.previous 0x80 l.fn.parts l.fn.bytes);
  sum : bytes_in l.left ≡ length l.rest;
  last : last_length l.before l.left ≡ last_length l.fn.previous l.fn.parts;
  first : l.first ≤ 0x80;
}

abbrev pub decreases-loop-part : goal.decreases-loop-part
decreases-loop-part g l = length l.left
