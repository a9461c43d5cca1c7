use Rattle.std.proofs.Common.{◌≡◌}
use Rattle.test_system.proofs.units.awaited.Given as goal

abbrev pub invariant-loop : goal.invariant-loop
invariant-loop g l = l.task.number ≡ l.fn.task.number
