use Rattle.std.proofs.Common.{◌≡◌, ◌++◌, length}
use Rattle.std.specs.Vec.Iter.{into_iter_items}
use Rattle.excp_system.proofs.Deals.{Dealt}
use Rattle.excp_system.proofs.opening.deal.Given as goal

abbrev pub invariant-loop-end : goal.invariant-loop-end
invariant-loop-end g l = record {
  all : l.fn.ends.items ≡ l.yielded ++ into_iter_items l.end-iterator;
  turn : l.number ≡ length l.yielded;
  dealt : Dealt (length l.fn.ends.items) l.place l.number l.fans.items;
}
