use Rattle.std.proofs.Common.{◌≡◌, ◌≤◌, ◌++◌, Some, length, map}
use Rattle.std.specs.Prelude.{vec_capacity}
use Rattle.std.specs.Vec.Iter.{into_iter_items}
use Rattle.excp_system.specs.Drained.{ArePlaced}
use Rattle.system_threads.proofs.runner.parted.Given as goal

abbrev pub invariant-loop-runner : goal.invariant-loop-runner
invariant-loop-runner g l = record {
  all : l.fn.runners.items ≡ l.yielded ++ into_iter_items l.runner-iterator;
  tasks : l.tasks.items ≡ map (λ runner. runner.client) l.yielded;
  outcomes : map Some l.outcomes.items ≡ map (λ runner. runner.outcome) l.yielded;
  made : ArePlaced (λ task. task.number) (length l.yielded) l.tasks.items;
  kept : length l.outcomes.items ≡ length l.yielded;
  room : (g.S.Site.rows.tasks ≤ vec_capacity l.tasks) × (g.S.Site.rows.tasks ≤ vec_capacity l.outcomes);
}
