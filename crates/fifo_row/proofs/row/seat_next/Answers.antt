use Rattle.std.proofs.Common.{◌∙◌}
use Rattle.fifo_row.specs.Views.{known}
use Rattle.fifo_row.proofs.Seating.{seats_as}
use Rattle.fifo_row.proofs.row.seat_next.Goals as goal

pub another-requires-clause-rule : goal.another-requires-clause-rule
another-requires-clause-rule g c =
    let v = known c.args.pass.now in
    seats_as g.I.RowItem.from g.I.RowItem.fact c.args.pass.now.id g.L.Label.tag v c.requires.pass.1
    (λ some_made. c.requires.tagged some_made ∙ c.requires.label)
