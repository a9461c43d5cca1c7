use Rattle.unit_book.proofs.Names.{refl, ◌∙◌}
use Rattle.unit_book.proofs.Calls.{OpenCall, open-settled, pending-opening}
use Rattle.unit_book.proofs.book.UnitBook.open.Goals as goal

pub invariant_of-self-2 : goal.invariant_of-self-2
invariant_of-self-2 g c =
    let o : OpenCall c.reserve.new.self c.open.new.self c.open.result = record {
      method = c.args.method;
      extents = c.args.extents.now;
      ok = c.open.ensures.book;
      err = c.open.ensures.err;
    } in
    open-settled g.D.Device.meaning c.open.result o (rw c.reserve.ensures.book c.self.invariant)

pub returns-clause-pending : goal.returns-clause-pending
returns-clause-pending g c =
    let o : OpenCall c.reserve.new.self c.open.new.self c.open.result = record {
      method = c.args.method;
      extents = c.args.extents.now;
      ok = c.open.ensures.book;
      err = c.open.ensures.err;
    } in
    rw (← c.self.view_is) (pending-opening g.D.Device.meaning c.open.result o ∙ rw c.reserve.ensures.book refl)
