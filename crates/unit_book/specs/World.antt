-- THE WORLD OF A UNIT: the tasks that send it requests and collect what was posted, its book, and what is under way
-- between them (profile).
use Rattle.std.specs.Prelude.{◌≡◌, ◌<◌, ℕ, ◌+◌, ◌==◌, true, if◌then◌else◌, Some, None, List, [], ◌∷◌, ◌++◌, length, drop}
use Rattle.std.specs.Prelude.{slice_get}
use Rattle.std.specs.List.{filter, list_all}
use Rattle.io_images.specs.declared.extent.Extent.{Extent}
use Rattle.device_port.specs.Meaning.{Meaning}
use Rattle.request_piece.specs.PostedState.{PostedState}
use Rattle.request_piece.specs.declared.piece.Piece.{Piece}
use Rattle.unit_book.specs.declared.dcb.ProcessingMethod.{ProcessingMethod}
use Rattle.unit_book.specs.declared.entry.Entry.TheVariants.{Arrive}
use Rattle.unit_book.specs.declared.step.UnitAnswer.{UnitAnswer}
use Rattle.unit_book.specs.declared.step.UnitStep.{UnitStep}
use Rattle.unit_book.specs.Trace.{is_opening, waiting, active}
use Rattle.unit_book.specs.Legal.{Legal}
use Rattle.unit_book.specs.Dooms.{after_dooms}
use Rattle.unit_book.specs.Book.{Book, occupancy}
use Rattle.unit_book.specs.Answers.{Extends, OpensBook}
use Rattle.unit_book.specs.Steps.{StepsBook}

-- the requests of a task, in order
abbrev pub requests_of : ℕ → List Piece → List Piece
requests_of task rs = filter (λ r. r.name.task == task) rs

-- the posted values of a task, in order
abbrev pub values_of : ℕ → List PostedState → List PostedState
values_of task vs = filter (λ v. v.name.task == task) vs

-- the number of the unit; how many requests may be in flight to it, and how many posted values on the way back to a
-- task; what each task sent, in order; what is in flight, in the order of sending; the book; the posted values on the
-- way back to each task, and those that it has got, in order
pub record World (D : Type 0) : Type 0 where
  pub unit : ℕ
  pub intake_room : ℕ
  pub post_room : ℕ
  pub sent : ℕ → List Piece
  pub flight : List Piece
  pub book : Book D
  pub back : ℕ → List PostedState
  pub got : ℕ → List PostedState

-- one more item after those of the task
abbrev pub one_more_of_task : {X : Type 0} → (ℕ → List X) → ℕ → X → ℕ → List X
one_more_of_task lists task x t = if task == t then lists t ++ x ∷ [] else lists t

-- the first item of the task is gone
abbrev pub without_first : {X : Type 0} → (ℕ → List X) → ℕ → ℕ → List X
without_first lists task t = if task == t then drop 1 (lists t) else lists t

module _ {D : Type 0} where
  -- a request is accepted: it is for this unit, has the next number of its task, and there is room
  pub record Accepts (old : World D) (r : Piece) (new : World D) : Type 0 where
    pub of_unit : r.unit ≡ old.unit
    pub next : r.name.seq ≡ length (old.sent r.name.task) + 1
    pub room : length old.flight < old.intake_room
    pub is : new ≡ record old { sent = one_more_of_task old.sent r.name.task r; flight = old.flight ++ r ∷ [] }

  -- the first posted value that is out goes on its way back to its task, if there is room
  pub record Delivers (old new : World D) : Type 0 where
    pub value : PostedState
    pub first : slice_get old.book.out 0 ≡ Some value
    pub room : length (old.back value.name.task) < old.post_room
    pub is : new ≡ record old {
      book = record old.book { out = drop 1 old.book.out };
      back = one_more_of_task old.back value.name.task value;
    }

  -- a task collects the first posted value that is on its way back to it
  pub record Collects (old : World D) (task : ℕ) (new : World D) : Type 0 where
    pub value : PostedState
    pub first : slice_get (old.back task) 0 ≡ Some value
    pub is : new ≡ record old { back = without_first old.back task; got = one_more_of_task old.got task value }

  -- nothing but the book changes
  abbrev pub InBook : World D → World D → Type 0
  InBook old new = new ≡ record old { book = new.book }

  -- A FINISHED WORLD: nothing is in flight or waits, and nothing is active
  pub record IsFinished (w : World D) : Type 0 where
    pub flight : w.flight ≡ []
    pub waiting : waiting w.book.trace ≡ []
    pub active : active w.book.trace ≡ None

module _ {D : Type 0} (meaning : Meaning D) where
  -- the first request in flight arrives at the book, which has room
  pub record Takes (old new : World D) : Type 0 where
    pub request : Piece
    pub first : slice_get old.flight 0 ≡ Some request
    pub room : occupancy old.book < old.book.capacity
    pub arrives : Extends meaning old.book (after_dooms (Arrive request ∷ old.book.trace)) old.book.awaits new.book
    pub is : new ≡ record old { flight = drop 1 old.flight; book = new.book }

  -- A STEP of the world: a request is accepted or taken, the book opens a DCB or is called by a value, a posted value is delivered
  -- or collected. What is refused is no step, nor is `reserve`: it changes nothing but the room for entries
  pub data Step (old new : World D) : Type 0 where
    Accept : (r : Piece) → Accepts old r new → Step old new
    Take : Takes old new → Step old new
    Open : (dcb : ℕ) (method : ProcessingMethod) (extents : List Extent) → OpensBook meaning old.book dcb method extents new.book →
        InBook old new → Step old new
    Call : (step : UnitStep) (answer : UnitAnswer) → StepsBook meaning old.book step answer new.book → InBook old new → Step old new
    Deliver : Delivers old new → Step old new
    Collect : (task : ℕ) → Collects old task new → Step old new

  -- A LIST OF STEPS, one after another, leads from one world to another
  pub data Reaches (first : World D) : World D → Type 0 where
    Stay : Reaches first first
    Go : {old new : World D} → Reaches first old → Step old new → Reaches first new

  -- THE OPENING WORLD: nothing was sent, and the trace tells of opened DCBs alone
  pub record IsOpening (w : World D) : Type 0 where
    pub legal : Legal meaning w.book.mounted w.book.trace
    pub opened : list_all is_opening w.book.trace ≡ true
    pub out : w.book.out ≡ []
    pub sent : (task : ℕ) → w.sent task ≡ []
    pub flight : w.flight ≡ []
    pub back : (task : ℕ) → w.back task ≡ []
    pub got : (task : ℕ) → w.got task ≡ []
