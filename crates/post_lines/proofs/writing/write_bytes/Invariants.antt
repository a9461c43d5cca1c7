use Rattle.std.proofs.Common.{◌≡◌}
use Rattle.std.specs.Slice.Iter.{chunks_rest, chunks_size}
use Rattle.post_lines.specs.Digits.{in_digits}
use Rattle.post_lines.specs.Writing.{Wrote}
use Rattle.post_lines.proofs.writing.write_bytes.Given as goal

abbrev pub invariant-loop-part : goal.invariant-loop-part
invariant-loop-part g l = record {
  size : chunks_size l.part-iterator ≡ 32;
  wrote : Wrote (g.W.Write.contents l.fn.out) (g.W.Write.contents l.out) (in_digits (chunks_rest l.part-iterator)) (in_digits l.bytes);
}
