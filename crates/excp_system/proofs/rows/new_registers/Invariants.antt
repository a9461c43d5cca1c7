use Rattle.std.proofs.Common.{◌≤◌}
use Rattle.std.specs.Prelude.{vec_capacity}
use Rattle.excp_system.specs.Opening.{AreBlank}
use Rattle.excp_system.proofs.rows.new_registers.Given as goal

abbrev pub invariant-loop : goal.invariant-loop
invariant-loop l = record {
  room : l.count ≤ vec_capacity l.registers;
  registers : AreBlank l.counter l.tasks l.registers.items;
}
