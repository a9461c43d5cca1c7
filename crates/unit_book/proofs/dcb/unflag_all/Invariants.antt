use Rattle.unit_book.proofs.Names.{◌≡◌}
use Rattle.unit_book.proofs.DcbRows.{first_unflagged}
use Rattle.unit_book.proofs.dcb.unflag_all.Given as goal

abbrev pub invariant-loop-place : goal.invariant-loop-place
invariant-loop-place l = l.rows.items ≡ first_unflagged l.place l.initial.rows.items
