use Rattle.std.proofs.Common.{rules, arith}
use Rattle.job_run.proofs.Books.{fresh_books}
use Rattle.test_system.proofs.jobs.rows_and_books.Goals as goal

pub returns-clause-books : goal.returns-clause-books
returns-clause-books c =
    fresh_books _ _ (first_of (search rules, omega (arith, c.in_ok-books.ensures.count))) c.in_ok-books.ensures.fresh
