use Rattle.std.proofs.Common.{◌≡◌}
use Rattle.example_print_tape.proofs.copy.CopyTapeTaskProgramAnyDevice.run.Given as goal

abbrev pub invariant-loop : goal.invariant-loop
invariant-loop g l = l.client.number ≡ l.fn.client.number

abbrev pub invariant-loop-2 : goal.invariant-loop-2
invariant-loop-2 g l = l.client.number ≡ l.fn.client.number
