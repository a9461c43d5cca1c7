use Rattle.std.proofs.Common.{◌≡◌, ◌+◌, length}
use Rattle.aws_tape.specs.Writing.{common}
use Rattle.aws_tape.proofs.writer.common.Given as goal

abbrev pub invariant-loop-place : goal.invariant-loop-place
invariant-loop-place l = record {
  same : common l.fn.mounted.reel.items l.fn.now.reel.items ≡ l.place-iterator.count + common l.place-iterator.iter l.others;
  most : l.most ≡ l.place-iterator.count + length l.place-iterator.iter;
}
