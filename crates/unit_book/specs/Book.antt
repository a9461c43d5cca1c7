-- THE BOOK of a unit as contracts see it.
use Rattle.std.specs.Prelude.{◌≡◌, ℕ, ◌+◌, ◌-◌, Bool, false, not, ◌&&◌, if◌then◌else◌, Option, Some, None, List, [], ◌∷◌, ◌++◌, length}
use Rattle.std.specs.Prelude.{take}
use Rattle.device_port.specs.Meaning.{Meaning}
use Rattle.request_piece.specs.PostedState.{PostedState}
use Rattle.request_piece.specs.declared.piece.Name.{Name}
use Rattle.unit_book.specs.declared.entry.Entry.{Entry}
use Rattle.unit_book.specs.Trace.{waiting, active}
use Rattle.unit_book.specs.Media.{still_runs, active_phase}
use Rattle.unit_book.specs.Posts.{posted}

-- the device as it was mounted, the interruption subclass, how many requests there may be, the trace (newest
-- entry first), whether the active request awaits its restart, the posted values that were not yet taken,
-- and the number of entries that the trace has room for
pub record Book (D : Type 0) : Type 0 where
  pub mounted : D
  pub isc : ℕ
  pub capacity : ℕ
  pub trace : List Entry
  pub awaits : Bool
  pub out : List PostedState
  pub spare : ℕ

-- the book of a device that was just mounted
abbrev pub opening : {D : Type 0} → D → ℕ → ℕ → Book D
opening device isc capacity = record { mounted = device; isc = isc; capacity = capacity; trace = []; awaits = false; out = []; spare = 0 }

abbrev pub active_count : Option Name → ℕ
active_count None = 0
active_count (Some n) = 1

-- the requests that the book holds: waiting, active, or posted and not yet taken
abbrev pub occupancy : {D : Type 0} → Book D → ℕ
occupancy b = length (waiting b.trace) + active_count (active b.trace) + length b.out

module _ {D : Type 0} (meaning : Meaning D) where
  -- the posted values that were taken
  abbrev pub given : Book D → List PostedState
  given b = take (length (posted meaning b.mounted b.trace) - length b.out) (posted meaning b.mounted b.trace)

  -- the value was the last that was taken
  pub record IsLastGiven (b : Book D) (value : PostedState) : Type 0 where
    pub before : List PostedState
    pub is : given b ≡ before ++ value ∷ []

  -- the active request, if its program runs
  abbrev pub running_name_by : D → List Entry → Option Name → Option Name
  running_name_by mounted H None = None
  running_name_by mounted H (Some n) = if still_runs (active_phase meaning mounted n H) then Some n else None

  abbrev pub running_name : Book D → Option Name
  running_name b = running_name_by b.mounted b.trace (active b.trace)

  -- a status is pending: the active request has ended or was halted, and does not await its restart
  abbrev pub pending_by : D → List Entry → Bool → Option Name → Bool
  pending_by mounted H awaits None = false
  pending_by mounted H awaits (Some n) = not awaits && not (still_runs (active_phase meaning mounted n H))

  abbrev pub is_pending : Book D → Bool
  is_pending b = pending_by b.mounted b.trace b.awaits (active b.trace)
