use Rattle.std.proofs.Common.{◌≡◌, ◌++◌, length, []}
use Rattle.std.specs.Prelude.{slice_get, Some, ℕ}
use Rattle.std.specs.Vec.Iter.{into_iter_items}
use Rattle.excp_system.specs.States.{HandlerState}
use Rattle.excp_system.proofs.system.make_handlers.Given as goal

abbrev pub invariant-loop-taker : goal.invariant-loop-taker
invariant-loop-taker g l = record {
  all : l.fn.handled.items ≡ l.yielded ++ into_iter_items l.taker-iterator;
  here : length l.handlers.items ≡ length l.yielded;
  turn : l.isc ≡ length l.yielded;
  each : (isc : ℕ) (h : HandlerState) → slice_get l.handlers.items isc ≡ Some h → h ≡ record { isc = isc; taken = [] };
}
