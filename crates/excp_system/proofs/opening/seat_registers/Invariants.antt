use Rattle.std.proofs.Common.{◌≡◌, ◌≤◌, length, drop}
use Rattle.excp_system.specs.Opening.{AreHands, AreLogs}
use Rattle.excp_system.proofs.opening.seat_registers.Given as goal

abbrev pub invariant-loop-register : goal.invariant-loop-register
invariant-loop-register g l = record {
  rest : l.register-iterator.s.now ≡ drop (length l.logs.items) l.fn.registers.items;
  within : length l.logs.items ≤ length l.fn.registers.items;
  hands : AreHands l.tasks (length l.logs.items) l.hands.items;
  logs : AreLogs g.S.Site.rows (length l.logs.items) l.logs.items;
}
