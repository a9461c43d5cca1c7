use Rattle.unit_book.proofs.Names.{◌∙◌, ap, length}
use Rattle.std.proofs.lemmas.List.{length-map}
use Rattle.unit_book.specs.Fields.{dcb_at, unflagged_row}
use Rattle.unit_book.proofs.DcbRows.{unflagged-at}
use Rattle.unit_book.proofs.dcb.DcbTable.unflag_all.Goals as goal

pub returns-clause-dcbs : goal.returns-clause-dcbs
returns-clause-dcbs c = λ d. rw (← c.self.view_is) (ap (λ rows. dcb_at rows d) c.unflag_all.ensures ∙ unflagged-at c.self.inside.rows.items d)

pub returns-clause-count : goal.returns-clause-count
returns-clause-count c = rw (← c.self.view_is) (ap length c.unflag_all.ensures ∙ length-map c.self.inside.rows.items unflagged_row)
