use Rattle.std.proofs.Common.{◌≡◌, ◌≤◌, ℕ}
use Rattle.std.specs.Prelude.{vec_len}
use Rattle.job_script.specs.Tasks.{list_of}
use Rattle.job_script.proofs.script.lengthen.Given as goal

abbrev pub invariant-loop : goal.invariant-loop
invariant-loop l = record {
  same : (k : ℕ) → list_of l.lists.items k ≡ list_of l.fn.lists.items k;
  enough : l.counter ≤ vec_len l.lists;
}
