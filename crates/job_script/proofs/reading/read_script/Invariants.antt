use Rattle.std.proofs.Common.{◌≤◌, length}
use Rattle.std.specs.Io.KnownBytes.{Consumes}
use Rattle.job_script.proofs.reading.read_script.Given as goal

abbrev pub invariant-loop : goal.invariant-loop
invariant-loop g l = record {
  few : length l.text.items ≤ 1048576;
  some : l.counter ≤ length l.text.items;
  told : Consumes (g.R.Read.remaining l.fn.reader) (g.R.Read.remaining l.reader) l.text.items;
}
