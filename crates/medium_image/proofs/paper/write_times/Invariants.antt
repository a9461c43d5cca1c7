use Rattle.std.proofs.Common.{replicate}
use Rattle.std.specs.Io.KnownBytes.{Appends}
use Rattle.medium_image.proofs.paper.write_times.Given as goal

abbrev pub invariant-loop : goal.invariant-loop
invariant-loop g l = Appends (g.W.Write.contents l.fn.out) (g.W.Write.contents l.out) (replicate l.counter l.byte)
