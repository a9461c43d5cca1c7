use Rattle.std.proofs.Common.{◌≤◌}
use Rattle.std.specs.Prelude.{vec_capacity}
use Rattle.excp_system.specs.Opening.{AreHands}
use Rattle.excp_system.proofs.opening.new_hands.Given as goal

abbrev pub invariant-loop-number : goal.invariant-loop-number
invariant-loop-number g l = record {
  room : l.count ≤ vec_capacity l.hands;
  hands : AreHands l.number 0 l.hands.items;
}
