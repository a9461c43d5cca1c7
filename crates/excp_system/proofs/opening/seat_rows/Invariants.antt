use Rattle.std.proofs.Common.{◌≡◌, ◌≤◌, length, drop}
use Rattle.excp_system.specs.Opening.{AreFans, AreTakers}
use Rattle.excp_system.proofs.opening.seat_rows.Given as goal

abbrev pub invariant-loop-row : goal.invariant-loop-row
invariant-loop-row g l = record {
  rest : l.row-iterator.s.now ≡ drop (length l.takers.items) l.fn.rows.items;
  within : length l.takers.items ≤ length l.fn.rows.items;
  fans : AreFans l.senders (length l.takers.items) l.fans.items;
  takers : AreTakers g.F.Reach.reached l.senders (length l.takers.items) l.takers.items;
}
