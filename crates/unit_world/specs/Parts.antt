-- A UNIT OF A SITE, and what its calls do to it (profile). The calls of its book do what they do to a book alone.
use Rattle.std.specs.Prelude.{◌≡◌, ◌≤◌, ◌<◌, ℕ, ◌+◌, ◌==◌, if◌then◌else◌, Bool, true, false, Option, None, Some, List, [], ◌∷◌, ◌++◌}
use Rattle.std.specs.Prelude.{length, drop, replicate, slice_get, slice_index_or, slice_set}
use Rattle.device_port.specs.Meaning.{Meaning}
use Rattle.request_piece.specs.declared.piece.Name.{Name}
use Rattle.request_piece.specs.declared.piece.Piece.{Piece}
use Rattle.unit_book.specs.declared.answer.Intake.{Intake}
use Rattle.unit_book.specs.declared.answer.Intake.TheVariants as intake
use Rattle.unit_book.specs.declared.entry.Entry.TheVariants.{Arrive}
use Rattle.unit_book.specs.Answers.{Extends}
use Rattle.unit_book.specs.Book.{Book, is_pending, occupancy}
use Rattle.unit_book.specs.Dooms.{after_dooms}
use Rattle.unit_book.specs.Renewal.{Renews}
use Rattle.unit_book.specs.Settle.{IsIdle}
use Rattle.unit_book.specs.Trace.{arrived_of}
use Rattle.unit_world.specs.declared.active.ActiveState.{ActiveState}
use Rattle.unit_world.specs.declared.active.ActiveState.TheVariants as state
use Rattle.unit_world.specs.declared.unit_side.UnitSide.{UnitSide}

-- its book; how many requests may be in flight to it; what is in flight, in the order of sending; and how many requests
-- each task sent to it
pub record UnitPart (D : Type 0) : Type 0 where
  pub book : Book D
  pub intake_room : ℕ
  pub flight : List Piece
  pub issued : List ℕ

-- how many requests a task sent
abbrev pub issued_by : List ℕ → ℕ → ℕ
issued_by issued task = slice_index_or issued task 0

-- the name of the next request of a task, and none if there is no such task, or after the last number
abbrev pub next_name_from : ℕ → Option ℕ → Option Name
next_name_from task None = None
next_name_from task (Some count) = if count == 4294967295 then None else Some (record { task = task; seq = count + 1 })

abbrev pub next_name_of : List ℕ → ℕ → Option Name
next_name_of issued task = next_name_from task (slice_get issued task)

-- the unit to which nothing was sent
abbrev pub opening_part : {D : Type 0} → Book D → ℕ → ℕ → UnitPart D
opening_part book tasks intake_room = record { book = book; intake_room = intake_room; flight = []; issued = replicate tasks 0 }

-- A UNIT BEGINS AGAIN: its book does, and nothing was sent to it
pub record RenewsPart {D : Type 0} (meaning : Meaning D) (tasks : ℕ) (old new : UnitPart D) : Type 0 where
  pub book : Renews meaning old.book new.book
  pub is : new ≡ opening_part new.book tasks old.intake_room

-- what contracts see of the fields of a unit
abbrev pub unit_part : {D : Type 0} → UnitSide D → UnitPart D
unit_part side = record { book = side.book; intake_room = side.flight.capacity; flight = side.flight.items; issued = side.issued.items }

-- a request is accepted: it is of one of the tasks, has the task's next number, and there is room
pub record PartAccepts {D : Type 0} (old : UnitPart D) (r : Piece) (new : UnitPart D) : Type 0 where
  pub of_task : r.name.task < length old.issued
  pub next : r.name.seq ≡ issued_by old.issued r.name.task + 1
  pub room : length old.flight < old.intake_room
  pub is : new ≡ record old { flight = old.flight ++ r ∷ []; issued = slice_set old.issued r.name.task r.name.seq }

-- the first request in flight is the next of its task at the book
abbrev pub HasNextNumber : {D : Type 0} → UnitPart D → Type 0
HasNextNumber p = (r : Piece) → slice_get p.flight 0 ≡ Some r → r.name.seq ≡ arrived_of r.name.task p.book.trace + 1

-- NOTHING IS LEFT TO DO: nothing is in flight, and the book is idle
pub record IsFinishedPart {D : Type 0} (p : UnitPart D) : Type 0 where
  pub flight : p.flight ≡ []
  pub idle : IsIdle p.book.trace

-- only the room for entries may have grown
pub record GrowsSpare {D : Type 0} (old new : Book D) : Type 0 where
  pub is : new ≡ record old { spare = new.spare }
  pub more : old.spare ≤ new.spare

-- what the active request waits for
abbrev pub active_state_by : Bool → Bool → ActiveState
active_state_by true pending = state.AwaitsRestart
active_state_by false true = state.Pending
active_state_by false false = state.Running

module _ {D : Type 0} (meaning : Meaning D) where
  abbrev pub active_state : Book D → ActiveState
  active_state b = active_state_by b.awaits (is_pending meaning b)

  -- the first request in flight arrives at the book
  pub record PartTakesOne (old : UnitPart D) (name : Name) (new : UnitPart D) : Type 0 where
    pub request : Piece
    pub first : slice_get old.flight 0 ≡ Some request
    pub named : request.name ≡ name
    pub room : occupancy old.book < old.book.capacity
    pub arrives : Extends meaning old.book (after_dooms (Arrive request ∷ old.book.trace)) old.book.awaits new.book
    pub is : new ≡ record old { flight = drop 1 old.flight; book = new.book }

  -- what `take` answers: held if the book has no room, quiet if nothing is in flight, for which it has made room for
  -- entries
  abbrev pub PartTakes : UnitPart D → Intake → UnitPart D → Type 0
  PartTakes old intake.Held new = (old.book.capacity ≤ occupancy old.book) × (new ≡ old)
  PartTakes old intake.Quiet new =
      (occupancy old.book < old.book.capacity) × (old.flight ≡ [])
      × (new ≡ record old { book = new.book }) × GrowsSpare old.book new.book × (2 ≤ new.book.spare)
  PartTakes old (intake.Took name) new = PartTakesOne old name new
