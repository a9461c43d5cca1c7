-- DCBs of a trace, and the requests that are doomed (DFSMSdfp Advanced Services, CLOSE, PURGE, and
-- "Data Control Block Fields", DCBIFLGS).
use Rattle.std.specs.Prelude.{ℕ, ◌==◌, Bool, true, false, not, ◌&&◌, ◌||◌, if◌then◌else◌, Option, Some, None, List, [], ◌∷◌, length}
use Rattle.std.specs.List.{filter, list_any}
use Rattle.io_images.specs.declared.extent.Extent.{Extent}
use Rattle.io_images.specs.Codes.{is_error}
use Rattle.io_images.specs.FileMask.{input_mask, output_mask}
use Rattle.request_piece.specs.declared.piece.Name.{Name}
use Rattle.request_piece.specs.declared.piece.Piece.{Piece}
use Rattle.unit_book.specs.declared.dcb.DcbState.{DcbState}
use Rattle.unit_book.specs.declared.dcb.DcbState.TheVariants.{Unknown, Open, Closing, Closed}
use Rattle.unit_book.specs.declared.dcb.ProcessingMethod.{ProcessingMethod}
use Rattle.unit_book.specs.declared.dcb.ProcessingMethod.TheVariants.{Input, Output}
use Rattle.unit_book.specs.declared.entry.Entry.{Entry}
use Rattle.unit_book.specs.declared.entry.Entry.TheVariants.{Opened, Reset, Post}
use Rattle.unit_book.specs.Trace.{opens, opens_for_input, closes, is_opening, active, waiting, request_named, is_purged}

-- the DCB was opened
abbrev pub is_opened : ℕ → List Entry → Bool
is_opened d H = list_any (opens d) H

-- the DCB was closed
abbrev pub is_closed : ℕ → List Entry → Bool
is_closed d H = list_any (closes d) H

abbrev pub is_open : ℕ → List Entry → Bool
is_open d H = is_opened d H && not (is_closed d H)

-- the openings of a trace, newest first
abbrev pub openings : List Entry → List Entry
openings H = filter is_opening H

-- how many DCBs were opened
abbrev pub opened_count : List Entry → ℕ
opened_count H = length (openings H)

-- the extents of a DCB
unfoldable pub extents_of : ℕ → List Entry → List Extent
extents_of d [] = []
extents_of d (Opened c method extents ∷ H) = if c == d then extents else extents_of d H
extents_of d (_ ∷ H) = extents_of d H

-- what a DCB was opened for
abbrev pub opened_for : ℕ → List Entry → ProcessingMethod
opened_for d H = if list_any (opens_for_input d) H then Input else Output

-- the file mask of a DCB that is opened for this (profile)
abbrev pub mask_for : ProcessingMethod → ℕ
mask_for Input = input_mask
mask_for Output = output_mask

-- the file mask of a DCB
abbrev pub mask_of : ℕ → List Entry → ℕ
mask_of d H = mask_for (opened_for d H)

-- the request with this name, if there is one, is of this DCB
abbrev pub is_of : ℕ → List Entry → Option Name → Bool
is_of d H None = false
is_of d H (Some n) = (request_named n H).dcb == d

-- THE STATE of a DCB: closing while a request of it is active
abbrev pub dcb_state : ℕ → List Entry → DcbState
dcb_state d H =
    if not (is_opened d H) then Unknown
    else if not (is_closed d H) then Open
    else if is_of d H (active H) then Closing
    else Closed

-- THE FLAG of a DCB, DCBIFLGS 11: the last among its Resets and the posts of its related requests with a
-- permanent error is a post
unfoldable pub flag : ℕ → List Entry → Bool
flag d [] = false
flag d (Reset c ∷ H) = if c == d then false else flag d H
flag d (Post n csw sense code ∷ H) =
    if is_error code && (request_named n H).related && ((request_named n H).dcb == d) then true else flag d H
flag d (_ ∷ H) = flag d H

-- the request is doomed where it arrives: its DCB is not open, or it is related and its DCB has the flag
abbrev pub is_refused : Piece → List Entry → Bool
is_refused r H = not (is_open r.dcb H) || (r.related && flag r.dcb H)

-- the request may not be started: its DCB is not open, a purge has covered it since it arrived, or it is
-- related and its DCB has the flag
abbrev pub is_doomed : List Entry → Piece → Bool
is_doomed H r = not (is_open r.dcb H) || is_purged r H || (r.related && flag r.dcb H)

-- DOOMED: what waits and will not be started
abbrev pub doomed : List Entry → List Piece
doomed H = filter (is_doomed H) (waiting H)
