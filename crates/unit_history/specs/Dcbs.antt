-- THE TABLE OF DCBS of a unit: what it says of each, and what the entries so far say (profile).
use Rattle.std.specs.Prelude.{◌≡◌, ◌≤◌, ◌<◌, ℕ, ◌+◌, ◌-◌, ◌==◌, ◌&&◌, Bool, true, false, if◌then◌else◌, nat_le, Option, Some, None, List, [], ◌∷◌, length}
use Rattle.std.specs.Prelude.{is_some, option_and_then, option_map, slice_get, vec_len, MatchBool}
use Rattle.io_images.specs.Codes.{is_error}
use Rattle.request_piece.specs.declared.piece.Piece.{Piece}
use Rattle.unit_book.specs.Dcbs.{opened_count}
use Rattle.unit_book.specs.Trace.{request_named}
use Rattle.unit_book.specs.declared.entry.Entry.{Entry}
use Rattle.unit_book.specs.declared.entry.Entry.TheVariants.{Opened, Close, Post}
use Rattle.unit_history.specs.declared.dcbs.DcbEntries.{DcbEntries}
use Rattle.unit_history.specs.declared.dcbs.Dcbs.{Dcbs}
use Rattle.unit_history.specs.declared.event.PostCause.{PostCause}
use Rattle.unit_history.specs.declared.event.PostCause.TheVariants.{NotOpen, RelatedError}

-- how many DCBs the table has room for
abbrev pub room_of : Dcbs → ℕ
room_of table = vec_len table.rows

-- a DCB that is open, and without error
abbrev pub opened_dcb : DcbEntries
opened_dcb = record { closed = None; flagged = None }

-- a DCB that an entry closes
abbrev pub closed_at : ℕ → DcbEntries → DcbEntries
closed_at entry dcb = record dcb { closed = Some entry }

-- a DCB whose flag a post sets
abbrev pub flagged_at : ℕ → DcbEntries → DcbEntries
flagged_at entry dcb = record dcb { flagged = Some entry }

-- the index of a DCB in a table with room for this many, if it is among those that were opened
abbrev pub dcb_place : ℕ → ℕ → ℕ → Option ℕ
dcb_place d room opened = if nat_le 1 d && nat_le d opened && nat_le d room then Some (d - 1) else None

-- what the table says of a DCB, if it was opened
abbrev pub known_at : ℕ → Dcbs → Option DcbEntries
known_at d table = option_and_then (slice_get table.rows.items) (dcb_place d (room_of table) table.opened)

-- what the entries so far tell of it
unfoldable pub known_of : ℕ → List Entry → Option DcbEntries
known_of d [] = None
known_of d (Opened c method extents ∷ H) = if c == d then Some opened_dcb else known_of d H
known_of d (Close c ∷ H) = if c == d then option_map (closed_at (length H + 1)) (known_of d H) else known_of d H
known_of d (Post n csw sense code ∷ H) =
    if is_error code && (request_named n H).related && ((request_named n H).dcb == d) then option_map (flagged_at (length H + 1)) (known_of d H)
    else known_of d H
known_of d (_ ∷ H) = known_of d H

-- the table has a change of one DCB
pub record ChangesDcb (old new : Dcbs) (d : ℕ) (change : DcbEntries → DcbEntries) : Type 0 where
  pub room : room_of new ≡ room_of old
  pub opened : new.opened ≡ old.opened
  pub dcbs : (c : ℕ) → known_at c new ≡ (if d == c then option_map change (known_at c old) else known_at c old)

-- a post in error of this request sets the flag of its DCB, if it is related
abbrev pub NotesError : Piece → ℕ → Dcbs → Dcbs → Type 0
NotesError r entry old new = MatchBool r.related (ChangesDcb old new r.dcb (flagged_at entry)) (new ≡ old)

-- the DCB with the next number is opened, if the table has room for it
pub record OpensDcb (old new : Dcbs) : Type 0 where
  pub room : room_of new ≡ room_of old
  pub opened : old.opened < room_of old → new.opened ≡ old.opened + 1
  pub dcbs : old.opened < room_of old → (c : ℕ) → known_at c new ≡ (if old.opened + 1 == c then Some opened_dcb else known_at c old)

-- the table says what the entries so far say
pub record TellsDcbs (H : List Entry) (table : Dcbs) : Type 0 where
  pub opened : table.opened ≡ opened_count H
  pub dcbs : (d : ℕ) → known_at d table ≡ known_of d H

-- it does while it has room for the DCBs that were opened
abbrev pub KnowsDcbs : List Entry → Dcbs → Type 0
KnowsDcbs H table = opened_count H ≤ room_of table → TellsDcbs H table

-- a DCB that was opened, and not closed since
abbrev pub is_open_dcb : Option DcbEntries → Bool
is_open_dcb None = false
is_open_dcb (Some dcb) = if is_some dcb.closed then false else true

-- the number of the entry that closed the DCB
abbrev pub closed_of : Option DcbEntries → Option ℕ
closed_of None = None
closed_of (Some dcb) = dcb.closed

-- the number of the post that last set its error flag
abbrev pub flagged_of : Option DcbEntries → Option ℕ
flagged_of None = None
flagged_of (Some dcb) = dcb.flagged

-- why a request is doomed that arrives for a DCB, if it is
abbrev pub arrival_cause : Option DcbEntries → PostCause
arrival_cause dcb = if is_open_dcb dcb then RelatedError (flagged_of dcb) else NotOpen (closed_of dcb)
