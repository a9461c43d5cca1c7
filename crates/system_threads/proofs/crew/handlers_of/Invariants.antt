use Rattle.std.proofs.Common.{◌≡◌, [], ◌++◌}
use Rattle.std.specs.Vec.Iter.{into_iter_items}
use Rattle.system_threads.specs.Shares.{AreShared, AreSharedSoFar}
use Rattle.system_threads.proofs.crew.handlers_of.Given as goal

abbrev pub invariant-loop : goal.invariant-loop
invariant-loop g l = AreSharedSoFar (λ handler. handler.items) (λ taker. taker.isc) l.count l.counter [] l.handlers.items

abbrev pub invariant-loop-taker : goal.invariant-loop-taker
invariant-loop-taker g l = record {
  all : l.fn.takers.items ≡ l.yielded ++ into_iter_items l.taker-iterator;
  shared : AreShared (λ handler. handler.items) (λ taker. taker.isc) l.fn.count l.yielded l.handlers.items;
}
