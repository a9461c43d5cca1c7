use Rattle.std.proofs.Common.{◌∙◌, ap, sym, subst}
use Rattle.excp_system.specs.Opening.{AreBlank, RowsState, site_of}
use Rattle.excp_system.proofs.Hands.{are_registers}
use Rattle.excp_system.proofs.rows.Rows.seats.Goals as goal

pub seat_registers-requires-clause-registers : goal.seat_registers-requires-clause-registers
seat_registers-requires-clause-registers g c =
    let is = c.self.view_is in
    are_registers g.S.Site.rows _ (c.requires.site ∙ ap site_of (sym is))
    (subst (λ (v : RowsState). AreBlank v.units v.tasks v.registers) (sym is) c.requires.fresh.registers)
