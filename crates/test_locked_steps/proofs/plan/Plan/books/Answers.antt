use Rattle.std.proofs.Common.{rules, arith}
use Rattle.std.proofs.lemmas.List.Elements.{All-push}
use Rattle.job_mount.specs.Books.{IsFresh}
use Rattle.test_locked_steps.proofs.plan.Plan.books.Goals as goal

pub loop-number-preserved : goal.loop-number-preserved
loop-number-preserved c =
    let books = c.loop-number.books.items in
    let fresh : IsFresh c.in_ok-book.book = search rules in
    record {
      count = omega (arith, c.in_ok-push.ensures.len, c.loop-number.invariant.count);
      fresh = rw c.in_ok-push.ensures.items (All-push IsFresh books c.in_ok-book.book c.loop-number.invariant.fresh fresh);
    }
