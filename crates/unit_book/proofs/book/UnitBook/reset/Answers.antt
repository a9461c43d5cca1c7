use Rattle.unit_book.proofs.Names.{active, started, attempts}
use Rattle.unit_book.proofs.book.UnitBook.reset.Goals as goal

pub returns-clause-pending : goal.returns-clause-pending
unfolding active started attempts
returns-clause-pending g c = rw (← c.self.view_is, c.reset.ensures.book, c.reserve.ensures.book)
