use Rattle.std.proofs.Common.{◌≡◌, ◌+◌, length}
use Rattle.aws_tape.specs.Layout.{bytes_in}
use Rattle.aws_tape.proofs.writer.is_split.Given as goal

abbrev pub invariant-loop-part : goal.invariant-loop-part
invariant-loop-part l = bytes_in l.fn.parts + l.rest ≡ bytes_in l.left + length l.fn.bytes

abbrev pub decreases-loop-part : goal.decreases-loop-part
decreases-loop-part l = length l.left
