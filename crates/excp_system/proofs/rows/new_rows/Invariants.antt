use Rattle.std.proofs.Common.{◌≤◌}
use Rattle.std.specs.Prelude.{vec_capacity}
use Rattle.excp_system.specs.Opening.{ArePlain}
use Rattle.excp_system.proofs.rows.new_rows.Given as goal

abbrev pub invariant-loop-tag : goal.invariant-loop-tag
invariant-loop-tag g l = record {
  room : l.count ≤ vec_capacity l.rows;
  rows : ArePlain l.capacity l.tag l.senders l.rows.items;
}
