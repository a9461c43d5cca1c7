use Rattle.unit_book.proofs.Dooms.{settled-new}
use Rattle.unit_book.proofs.book.UnitBook.new.Goals as goal

pub invariant_of-result : goal.invariant_of-result
invariant_of-result g c = let e = c.in_ok-new.ensures.ok in rw e (settled-new g.D.Device.meaning c.args.device)
