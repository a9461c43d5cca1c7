use Rattle.unit_book.proofs.Names.{sym, arith}
use Rattle.unit_book.proofs.Calls.{pending-arrive}
use Rattle.unit_book.proofs.book.UnitBook.arrive_reserved.Goals as goal
use Rattle.std.proofs.lemmas.Grind.{common_steps}

pub refuse-requires-clause-refused : goal.refuse-requires-clause-refused
refuse-requires-clause-refused g c = rw c.into_parts-issued.ensures.issued (sym c.if-refused.ensures)

pub arrive-requires-clause-accepted : goal.arrive-requires-clause-accepted
arrive-requires-clause-accepted g c = rw c.into_parts-issued.ensures.issued (sym c.if-refused.ensures)

pub returns-then-refused-clause-pending : goal.returns-then-refused-clause-pending
returns-then-refused-clause-pending g c = grind (arith, common_steps, pending-arrive)

pub returns-else-refused-clause-pending : goal.returns-else-refused-clause-pending
returns-else-refused-clause-pending g c = grind (arith, common_steps, pending-arrive)
