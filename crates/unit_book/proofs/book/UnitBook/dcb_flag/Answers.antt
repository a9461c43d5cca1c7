use Rattle.unit_book.proofs.Names.{reverse, sym, ap, ◌∙◌}
use Rattle.std.specs.Option.{option_copied}
use Rattle.unit_book.proofs.Opens.{no-flag}
use Rattle.unit_book.proofs.book.UnitBook.dcb_flag.Goals as goal

pub returns-in-None : goal.returns-in-None
returns-in-None g c =
    let i = c.self-inside.inside.0.0 in
    let t = c.self-inside.invariant.0 in
    let none = sym (t.dcbs c.args.dcb) ∙ sym c.get.ensures ∙ ap option_copied c.in-None.is in
    rw (← c.self.view_is, ← c.self-inside.view_is)
    (sym (no-flag g.D.Device.meaning i.mounted c.args.dcb (reverse i.trace.items) t.legal none))
