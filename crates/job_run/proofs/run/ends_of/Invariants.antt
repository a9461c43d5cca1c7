use Rattle.std.proofs.Common.{◌≡◌, ◌+◌, ◌++◌, Ok, map, length, drop}
use Rattle.std.specs.Vec.Iter.{into_iter_items}
use Rattle.job_run.proofs.run.ends_of.Given as goal

abbrev pub invariant-loop-outcome : goal.invariant-loop-outcome
invariant-loop-outcome g l = record {
  count : length l.tasks.items + length (into_iter_items l.outcome-iterator) ≡ length l.fn.outcomes.items;
  made : map Ok l.tasks.items ++ into_iter_items l.outcome-iterator ≡ l.fn.outcomes.items;
  left : into_iter_items l.outcome-iterator ≡ drop (length l.tasks.items) l.fn.outcomes.items;
}
