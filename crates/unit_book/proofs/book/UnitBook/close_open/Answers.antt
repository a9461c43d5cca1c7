use Rattle.unit_book.proofs.Names.{posted, arith}
use Rattle.unit_book.proofs.Calls.{add-then-sweep, pending-close}
use Rattle.unit_book.proofs.book.UnitBook.close_open.Goals as goal
use Rattle.std.proofs.lemmas.Grind.{common_steps}

pub returns-clause-ok : goal.returns-clause-ok
unfolding posted
returns-clause-ok g c = grind (arith, common_steps, add-then-sweep)

pub returns-clause-pending : goal.returns-clause-pending
returns-clause-pending g c = grind (arith, common_steps, pending-close, returns-clause-ok)
