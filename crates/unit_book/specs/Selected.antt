-- Which of the waiting requests a call leaves to be purged.
use Rattle.std.specs.Prelude.{◌≡◌, Bool, false, ◌&&◌, if◌then◌else◌, Option, Some, None, List}
use Rattle.std.specs.List.{filter}
use Rattle.io_images.specs.Codes.{is_error}
use Rattle.io_images.specs.declared.code.Code.{Code}
use Rattle.request_piece.specs.declared.piece.Piece.{Piece}
use Rattle.unit_queue.specs.Selection.{selects}
use Rattle.unit_queue.specs.declared.selection.Selection.{Selection}
use Rattle.unit_queue.specs.declared.selection.Selection.TheVariants.{Related}
use Rattle.unit_book.specs.declared.entry.Entry.{Entry}
use Rattle.unit_book.specs.Trace.{waiting}
use Rattle.unit_book.specs.Dcbs.{doomed}

-- the request is one of the selection, if there is one
abbrev pub is_selected : Option Selection → Piece → Bool
is_selected None r = false
is_selected (Some selection) r = selects selection r

-- the post of a related request with an error dooms the related requests of its DCB
abbrev pub doomed_by_post : Piece → Code → Option Selection
doomed_by_post r code = if is_error code && r.related then Some (Related r.dcb) else None

-- the doomed requests are those that are selected
abbrev pub DoomedBy : Option Selection → List Entry → Type 0
DoomedBy selection H = doomed H ≡ filter (is_selected selection) (waiting H)
