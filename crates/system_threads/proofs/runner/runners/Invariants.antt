use Rattle.std.proofs.Common.{◌≡◌, ◌++◌, length, map}
use Rattle.std.specs.Vec.Iter.{into_iter_items}
use Rattle.excp_system.specs.Drained.{ArePlaced}
use Rattle.system_threads.proofs.runner.runners.Given as goal

abbrev pub invariant-loop-task : goal.invariant-loop-task
invariant-loop-task g l = record {
  all : l.fn.tasks.items ≡ l.yielded ++ into_iter_items l.task-iterator;
  clients : map (λ runner. runner.client) l.runners.items ≡ l.yielded;
  made : ArePlaced (λ runner. runner.client.number) (length l.yielded) l.runners.items;
}
