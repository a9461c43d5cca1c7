use Rattle.std.proofs.Common.{◌≡◌, ◌≤◌, ◌++◌, map, length}
use Rattle.std.specs.List.{All}
use Rattle.std.specs.Prelude.{vec_len, vec_capacity}
use Rattle.std.specs.Vec.Iter.{into_iter_items}
use Rattle.excp_system.specs.States.{TaskState}
use Rattle.post_ledger.specs.Parting.{hand_of, out_of, post_end}
use Rattle.post_ledger.proofs.parting.split_tasks.Given as goal

abbrev pub invariant-loop-task : goal.invariant-loop-task
invariant-loop-task g l = record {
  all : l.fn.tasks.items ≡ l.yielded ++ into_iter_items l.task-iterator;
  outs : l.outs.items ≡ map out_of l.yielded;
  collected : l.collected.items ≡ map (post_end g.S.Site.rows) l.yielded;
  counts : All (λ (w : TaskState). length w.sent ≡ g.S.Site.rows.units) l.yielded;
  hands : l.hands.items ≡ map hand_of l.yielded;
  pens : All (λ (w : TaskState). length w.asked ≡ g.S.Site.rows.units) l.yielded;
  room : (vec_len l.fn.tasks ≤ vec_capacity l.outs) × (vec_len l.fn.tasks ≤ vec_capacity l.collected)
      × (vec_len l.fn.tasks ≤ vec_capacity l.hands);
}
