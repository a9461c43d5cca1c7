use Rattle.std.proofs.Common.{◌*◌, ◌≤◌, []}
use Rattle.aws_tape.specs.Reading.{start}
use Rattle.aws_tape.specs.Stepping.{IsLeft}
use Rattle.aws_tape.proofs.loading.load_chunks.Given as goal

abbrev pub invariant-loop : goal.invariant-loop
invariant-loop g l = record {
  left : IsLeft (start (record { size = l.fn.bytes; items = [] })) (g.R.Read.remaining l.fn.source) (g.R.Read.remaining l.source) l.offset l.reader;
  small : l.offset ≤ 65_541 * l.counter;
}
