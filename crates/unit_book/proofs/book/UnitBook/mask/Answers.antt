use Rattle.unit_book.proofs.Names.{reverse, ap, ◌∙◌, mask_at}
use Rattle.unit_book.proofs.Starts.{mask-is}
use Rattle.unit_book.proofs.book.UnitBook.mask.Goals as goal

pub returns : goal.returns
returns g c =
    let i = c.self-inside.inside.0.0 in
    let t = c.self-inside.invariant.0 in
    rw (← c.self.view_is, ← c.self-inside.view_is) (c.mask.ensures ∙ ap mask_at (t.dcbs c.args.dcb) ∙ mask-is c.args.dcb (reverse i.trace.items))
