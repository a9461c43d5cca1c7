-- WHAT THE POSTS of a trace hand out (DFSMSdfp Advanced Services, "Event Control Block Fields", and profile).
use Rattle.std.specs.Prelude.{ℕ, List, [], ◌∷◌, ◌++◌, length, drop}
use Rattle.io_area.specs.Storage.{Storage}
use Rattle.io_images.specs.declared.csw.Csw.{Csw}
use Rattle.io_images.specs.declared.code.Code.{Code}
use Rattle.device_port.specs.Meaning.{Meaning}
use Rattle.request_piece.specs.PostedState.{PostedState}
use Rattle.request_piece.specs.Final.{posted_of}
use Rattle.request_piece.specs.declared.piece.Piece.{Piece}
use Rattle.unit_book.specs.declared.entry.Entry.{Entry}
use Rattle.unit_book.specs.declared.entry.Entry.TheVariants.{Post}
use Rattle.unit_book.specs.Trace.{request_named}
use Rattle.unit_book.specs.Media.{area}

-- the value of a post of a request whose storage is this
unfoldable pub posted_value : Piece → Csw → ℕ → Code → Storage → PostedState
posted_value r csw sense code m = posted_of (record r { area = m }) code csw sense

module _ {D : Type 0} (meaning : Meaning D) (mounted : D) where
  -- THE POSTED VALUES, in order: each request with its storage at its post
  unfoldable pub posted : List Entry → List PostedState
  posted [] = []
  posted (Post n csw sense code ∷ H) =
      posted H ++ posted_value (request_named n H) csw sense code (area meaning mounted (request_named n H) H) ∷ []
  posted (_ ∷ H) = posted H

  -- the values posted since an earlier trace
  abbrev pub posted_since : List Entry → List Entry → List PostedState
  posted_since earlier H = drop (length (posted earlier)) (posted H)
