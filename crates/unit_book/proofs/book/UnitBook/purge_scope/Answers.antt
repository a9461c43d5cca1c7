use Rattle.unit_book.proofs.Calls.{purge-reserved, pending-purge}
use Rattle.unit_book.proofs.book.UnitBook.purge_scope.Goals as goal
use Rattle.unit_book.proofs.Names.{arith}
use Rattle.std.proofs.lemmas.Grind.{common_steps}

pub returns-clause-pending : goal.returns-clause-pending
returns-clause-pending g c = grind (arith, common_steps, pending-purge)

pub returns-clause-ok : goal.returns-clause-ok
returns-clause-ok g c =
    rw (← c.self.view_is) (purge-reserved g.D.Device.meaning c.in_ok-reserve_posts.ensures.book
    (record { purges = c.purge_in_room.ensures.book; answer_is = c.purging.ensures }))
