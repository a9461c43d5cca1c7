use Rattle.std.proofs.Common.{◌≡◌}
use Rattle.unit_book.specs.Trace.{arrived_of}
use Rattle.bench_steps.proofs.cycles.Cycles.run.Given as goal

abbrev pub invariant-loop-before : goal.invariant-loop-before
invariant-loop-before l = record { counted : arrived_of 0 l.self.trace ≡ l.before }
