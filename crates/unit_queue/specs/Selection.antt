-- Which of the waiting requests a sweep takes out.
use Rattle.std.specs.Prelude.{◌==◌, Bool, ◌&&◌}
use Rattle.request_piece.specs.declared.piece.Piece.{Piece}
use Rattle.request_piece.specs.Scope.{covers}
use Rattle.unit_queue.specs.declared.selection.Selection.{Selection}
use Rattle.unit_queue.specs.declared.selection.Selection.TheVariants as selection

-- a request is one of the selection: the scope covers it, or it is related and of the DCB
abbrev pub selects : Selection → Piece → Bool
selects (selection.Scope scope) r = covers scope r
selects (selection.Related dcb) r = r.related && (dcb == r.dcb)
