use Rattle.unit_book.proofs.Calls.{add-then-sweep, posted-halt}
use Rattle.unit_book.proofs.book.UnitBook.purge_in_room.Goals as goal
use Rattle.unit_book.proofs.Names.{arith}
use Rattle.std.proofs.lemmas.Grind.{common_steps}

pub returns-clause-book : goal.returns-clause-book
returns-clause-book g c = grind (arith, common_steps, add-then-sweep, posted-halt)
