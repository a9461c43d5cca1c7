-- WHAT A CALL OF A LOCKED UNIT that uses a row does, and answers (profile). The other calls are those of its book.
use Rattle.std.specs.Prelude.{◌≡◌, ◌<◌, ◌≤◌, ◌+◌, [], ◌∷◌, ◌++◌, Some, slice_get, drop}
use Rattle.device_port.specs.Meaning.{Meaning}
use Rattle.request_piece.specs.PostedState.{PostedState}
use Rattle.request_piece.specs.declared.piece.Name.{Name}
use Rattle.request_piece.specs.declared.piece.Piece.{Piece}
use Rattle.unit_book.specs.declared.entry.Entry.TheVariants.{Arrive}
use Rattle.unit_book.specs.Answers.{Extends}
use Rattle.unit_book.specs.Book.{Book, given, occupancy}
use Rattle.unit_book.specs.Dooms.{after_dooms}
use Rattle.unit_book.specs.Trace.{arrivals, arrived_of}
use Rattle.fifo_row.specs.Lists.{of_sender}
use Rattle.fifo_row.specs.Steps.{WasEmpty, WasFull}
use Rattle.unit_book.specs.declared.answer.Intake.{Intake}
use Rattle.unit_book.specs.declared.answer.Intake.TheVariants as intake
use Rattle.unit_book.specs.declared.answer.Delivery.{Delivery}
use Rattle.unit_book.specs.declared.answer.Delivery.TheVariants as delivery
use Rattle.excp_system.specs.Sites.{SiteRows, NoFact, RequestFact, intake_rows, post_rows, task_of, unit_of, for_task, end_of, taker_of}
use Rattle.excp_system.specs.Notices.{InBook}
use Rattle.excp_system.specs.States.{Locked}

module _ {D : Type 0} (meaning : Meaning D) (s : SiteRows) where
  -- the first request of the intake row arrives at the book: it is the next of its task, and for this unit
  pub record UnitTakes (old : Locked D) (name : Name) (new : Locked D) : Type 0 where
    pub request : Piece
    pub named : request.name ≡ name
    pub of_task : request.name.task < s.tasks
    pub of_unit : request.unit ≡ old.unit
    pub next : request.name.seq ≡ arrived_of request.name.task old.book.trace + 1
    pub arrives : Extends meaning old.book (after_dooms (Arrive request ∷ old.book.trace)) old.book.awaits new.book

  -- what `take` answers: held if the book has no room, quiet if the row was empty, for which it has made room for entries
  abbrev pub TakesIn : Locked D → Intake → Locked D → Type 0
  TakesIn old intake.Held new = (old.book.capacity ≤ occupancy old.book) × (new ≡ old)
  TakesIn old intake.Quiet new =
      (occupancy old.book < old.book.capacity)
      × (new ≡ record old { book = record old.book { spare = new.book.spare } }) × (old.book.spare ≤ new.book.spare)
      × (2 ≤ new.book.spare)
      × WasEmpty task_of RequestFact (taker_of (intake_rows s) s.tasks old.unit (arrivals old.book.trace))
  TakesIn old (intake.Took name) new = (occupancy old.book < old.book.capacity) × UnitTakes old name new × InBook old new

  -- the first posted value that is out
  pub record IsFirst (b : Book D) (name : Name) (value : PostedState) : Type 0 where
    pub first : slice_get b.out 0 ≡ Some value
    pub named : value.name ≡ name
    pub of_task : value.name.task < s.tasks

  -- what `deliver` answers: quiet if nothing is out, full if the post row of the task was
  abbrev pub UnitDelivers : Locked D → Delivery → Locked D → Type 0
  UnitDelivers old delivery.Quiet new = (old.book.out ≡ []) × (new ≡ old)
  UnitDelivers old (delivery.Delivered name) new =
      (value : PostedState) × IsFirst old.book name value × (new ≡ record old { book = record old.book { out = drop 1 old.book.out } })
      × (given meaning new.book ≡ given meaning old.book ++ value ∷ [])
  UnitDelivers old (delivery.Full name) new =
      (value : PostedState) × IsFirst old.book name value × (new ≡ old)
      × WasFull unit_of NoFact (end_of (post_rows s) old.unit value.name.task (of_sender for_task value.name.task (given meaning old.book)))
