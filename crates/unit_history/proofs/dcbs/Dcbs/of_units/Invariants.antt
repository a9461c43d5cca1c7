use Rattle.std.proofs.Common.{◌≤◌, take}
use Rattle.std.specs.List.{All}
use Rattle.unit_book.specs.Dcbs.{opened_count}
use Rattle.unit_history.proofs.dcbs.Dcbs.of_units.Given as goal

abbrev pub invariant-loop-book : goal.invariant-loop-book
invariant-loop-book g l = All (λ book. opened_count book.trace ≤ l.most) (take l.book-index l.books)
