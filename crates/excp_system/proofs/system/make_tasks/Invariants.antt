use Rattle.std.proofs.Common.{◌≡◌, length, drop}
use Rattle.std.specs.Iterator.Adapters.{zip_first, zip_second}
use Rattle.std.specs.Vec.Iter.{into_iter_items}
use Rattle.excp_system.specs.Opening.{AreTasks}
use Rattle.excp_system.proofs.system.make_tasks.Given as goal

abbrev pub invariant-loop-fan : goal.invariant-loop-fan
invariant-loop-fan g l = record {
  here : length l.tasks.items ≡ length l.yielded;
  fans : into_iter_items (zip_first (zip_first l.fan-iterator)) ≡ drop (length l.yielded) l.fn.out.items;
  takers : into_iter_items (zip_second (zip_first l.fan-iterator)) ≡ drop (length l.yielded) l.fn.collected.items;
  hands : into_iter_items (zip_second l.fan-iterator) ≡ drop (length l.yielded) l.fn.hands.items;
  tasks : AreTasks (length l.yielded) g.S.Site.rows.units l.tasks.items;
}
