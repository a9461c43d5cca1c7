use Rattle.std.proofs.Common.{◌≡◌}
use Rattle.std.specs.Prelude.{All, vec_len}
use Rattle.job_mount.specs.Books.{IsFresh}
use Rattle.test_locked_steps.proofs.plan.Plan.books.Given as goal

abbrev pub invariant-loop-number : goal.invariant-loop-number
invariant-loop-number l = record {
  count : vec_len l.books ≡ l.number;
  fresh : All IsFresh l.books.items;
}
