-- THE CAUSE OF A POST: why a request ended as it did, and the number of the entry that brought it about (DFSMSdfp Advanced
-- Services, PURGE and CLOSE, and profile).
use Rattle.std.specs.Prelude.{[], Option, ◌≡◌, ◌≢◌, ℕ, ◌+◌, ◌≤◌, ◌==◌, ◌&&◌, Bool, true, false, if◌then◌else◌, Some, None, List, ◌∷◌, ◌++◌, length}
use Rattle.std.specs.Prelude.{slice_get}
use Rattle.std.specs.List.{list_any}
use Rattle.io_images.specs.Codes.{is_error}
use Rattle.io_images.specs.declared.code.Code.{Code}
use Rattle.io_images.specs.declared.code.Code.TheVariants.{ExtentViolated, Purged}
use Rattle.request_piece.specs.declared.piece.Name.{Name}
use Rattle.request_piece.specs.declared.piece.Piece.{Piece}
use Rattle.unit_book.specs.Trace.{active, closes, has_arrived, purges, is_covered, is_halted, purges_halting, request_named, starts, waiting}
use Rattle.unit_book.specs.Dcbs.{doomed, flag, is_doomed, is_open, opened_count}
use Rattle.unit_book.specs.declared.entry.Entry.{Entry}
use Rattle.unit_book.specs.declared.entry.Entry.TheVariants.{Arrive, Close as CloseEntry, Post, Reset}
use Rattle.unit_history.specs.declared.event.PostCause.{PostCause}
use Rattle.unit_history.specs.declared.event.PostCause.TheVariants.{Program, OutsideExtents, Purge, Close}
use Rattle.unit_history.specs.declared.event.PostCause.TheVariants.{NotOpen, RelatedError, Halt, NotTriedAgain, Unknown}

-- AN ENTRY by its number, which counts from 1 in the order of the trace, with those after it and those before it
pub record EntryAt (H : List Entry) (number : ℕ) : Type 0 where
  pub later : List Entry
  pub entry : Entry
  pub earlier : List Entry
  pub parts : H ≡ later ++ entry ∷ earlier
  pub number_is : number ≡ length earlier + 1

-- THE HALTING PURGE: the first purge with Halt that covers the request since its last start
pub record IsHalting (r : Piece) (H : List Entry) (number : ℕ) : Type 0 where
  pub at : EntryAt H number
  pub purges : purges_halting r at.entry ≡ true
  pub first : is_covered r at.earlier ≡ false
  pub since_start : list_any (starts r.name) at.later ≡ false

-- its program ended, and was neither halted nor to be tried again
pub record EndedByProgram (H : List Entry) (n : Name) (code : Code) : Type 0 where
  pub active : active H ≡ Some n
  pub halted : is_halted n H ≡ false
  pub code_is : code ≢ Purged

-- its program was halted (or ended, and would be tried again), and the purge did it
pub record PurgedByHalt (was_halted : Bool) (H : List Entry) (n : Name) (code : Code) (number : ℕ) : Type 0 where
  pub active : active H ≡ Some n
  pub halted : is_halted n H ≡ was_halted
  pub code_is : code ≡ Purged
  pub purge : IsHalting (request_named n H) H number

-- the request failed the extent check: nothing was active, and it was the first one that waited
pub record FailedCheck (H : List Entry) (n : Name) (code : Code) : Type 0 where
  pub none : active H ≡ None
  pub first : slice_get (waiting H) 0 ≡ Some (request_named n H)
  pub code_is : code ≡ ExtentViolated

-- a cause of what is doomed while it waits
abbrev pub is_doom : PostCause → Bool
is_doom Program = false
is_doom OutsideExtents = false
is_doom (Halt number) = false
is_doom (NotTriedAgain number) = false
is_doom _ = true

-- THE ENTRY THAT DOOMED a request: the request arrived before it, nothing was doomed before it, and the request is after it
pub record DoomedAt (H : List Entry) (r : Piece) (number : ℕ) : Type 0 where
  pub at : EntryAt H number
  pub arrived : has_arrived r.name at.earlier ≡ true
  pub spared : doomed at.earlier ≡ []
  pub is_after : is_doomed (at.entry ∷ at.earlier) r ≡ true

-- a purge that covers the request
pub record IsPurge (H : List Entry) (r : Piece) (number : ℕ) : Type 0 where
  pub dooms : DoomedAt H r number
  pub is : purges r dooms.at.entry ≡ true

-- the close of its DCB
pub record IsClose (H : List Entry) (r : Piece) (number : ℕ) : Type 0 where
  pub dooms : DoomedAt H r number
  pub is : closes r.dcb dooms.at.entry ≡ true

-- THE CLOSE of a DCB, by its number, if it was closed
unfoldable pub closed_by : ℕ → List Entry → Option ℕ
closed_by d [] = None
closed_by d (CloseEntry c ∷ H) = if c == d then Some (length H + 1) else closed_by d H
closed_by d (_ ∷ H) = closed_by d H

-- A POST SETS THE FLAG of its DCB: its request is related, and its code is of an error
abbrev pub sets_flag : List Entry → Name → Code → Bool
sets_flag H n code = is_error code && (request_named n H).related

-- THE POST THAT LAST SET THE FLAG of a DCB, by its number, if no reset came after it
unfoldable pub flagged_by : ℕ → List Entry → Option ℕ
flagged_by d [] = None
flagged_by d (Reset c ∷ H) = if c == d then None else flagged_by d H
flagged_by d (Post n csw sense code ∷ H) =
    if is_error code && (request_named n H).related && ((request_named n H).dcb == d) then Some (length H + 1) else flagged_by d H
flagged_by d (_ ∷ H) = flagged_by d H

-- THE ARRIVAL of a request, with the entries after it and those before it
pub record ArrivalOf (H : List Entry) (r : Piece) : Type 0 where
  pub later : List Entry
  pub earlier : List Entry
  pub parts : H ≡ later ++ Arrive r ∷ earlier

-- its DCB was not open when it arrived: this entry had closed it, or none had opened it
pub record ArrivedShut (H : List Entry) (r : Piece) (close : Option ℕ) : Type 0 where
  pub arrival : ArrivalOf H r
  pub shut : is_open r.dcb arrival.earlier ≡ false
  pub by : closed_by r.dcb arrival.earlier ≡ close

-- it is related, and its DCB is open and has the flag, which this post set
pub record HasRelatedError (H : List Entry) (r : Piece) (post : Option ℕ) : Type 0 where
  pub related : r.related ≡ true
  pub opened : is_open r.dcb H ≡ true
  pub flagged : flag r.dcb H ≡ true
  pub by : flagged_by r.dcb H ≡ post

-- WHY a request is doomed, by a table with room for this many DCBs. What a table says of a DCB counts while it has room
-- for all that were opened.
abbrev pub IsDoom : ℕ → List Entry → Piece → PostCause → Type 0
IsDoom room H r (Purge number) = IsPurge H r number
IsDoom room H r (Close number) = IsClose H r number
IsDoom room H r (NotOpen close) = opened_count H ≤ room → ArrivedShut H r close
IsDoom room H r (RelatedError post) = opened_count H ≤ room → HasRelatedError H r post
IsDoom room H r _ = ⊥

-- it was doomed while it waited
pub record WasDoomed (room : ℕ) (cause : PostCause) (H : List Entry) (n : Name) (code : Code) : Type 0 where
  pub inactive : active H ≢ Some n
  pub doom : IsDoom room H (request_named n H) cause
  pub code_is : code ≡ Purged

-- WHY a request is posted with a code, after the entries before
abbrev pub IsCauseOfPost : ℕ → List Entry → Name → Code → PostCause → Type 0
IsCauseOfPost room H n code Program = EndedByProgram H n code
IsCauseOfPost room H n code OutsideExtents = FailedCheck H n code
IsCauseOfPost room H n code (Halt number) = PurgedByHalt true H n code number
IsCauseOfPost room H n code (NotTriedAgain number) = PurgedByHalt false H n code number
IsCauseOfPost room H n code cause = WasDoomed room cause H n code

-- the cause for the active request, which was halted or not, with its halting purge
abbrev pub ended_cause : Code → Bool → Option ℕ → PostCause
ended_cause Purged true (Some number) = Halt number
ended_cause Purged false (Some number) = NotTriedAgain number
ended_cause Purged was_halted None = Unknown
ended_cause _ was_halted halting = Program

-- the cause for a request that waits, and that of what is doomed
abbrev pub waiting_cause : Code → PostCause → PostCause
waiting_cause ExtentViolated doom = OutsideExtents
waiting_cause _ doom = doom
