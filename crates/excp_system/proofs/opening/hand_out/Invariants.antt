use Rattle.std.proofs.Common.{◌≡◌, ◌++◌, length}
use Rattle.std.specs.Vec.Iter.{into_iter_items}
use Rattle.excp_system.proofs.Hands.{Handed}
use Rattle.excp_system.proofs.opening.hand_out.Given as goal

abbrev pub invariant-loop-pen : goal.invariant-loop-pen
invariant-loop-pen g l = record {
  all : l.fn.pens.items ≡ l.yielded ++ into_iter_items l.pen-iterator;
  turn : l.number ≡ length l.yielded;
  handed : Handed (length l.fn.pens.items) l.place l.number l.hands.items;
}
