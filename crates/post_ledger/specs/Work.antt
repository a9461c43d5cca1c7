-- WHAT THE END OF A RUN DOES to units and tasks (profile).
use Rattle.std.specs.Prelude.{◌≡◌, ◌<◌, ℕ, Bool, true, false, List, [], length, ◌++◌, Some, Vec, map, slice_get, slice_index_or}
use Rattle.std.specs.List.{list_all}
use Rattle.request_piece.specs.PostedState.{PostedState}
use Rattle.unit_book.specs.declared.entry.Entry.{Entry}
use Rattle.unit_book.specs.declared.entry.Entry.TheVariants.{Arrive, Start, Ran, Post}
use Rattle.unit_book.specs.Book.{Book}
use Rattle.fifo_row.specs.Lists.{of_sender}
use Rattle.excp_system.specs.Sites.{unit_of}
use Rattle.excp_system.specs.States.{Locked, TaskState}

-- the entry is of a request that arrived, was started, ran or was posted
abbrev pub is_work : Entry → Bool
is_work (Arrive r) = true
is_work (Start n) = true
is_work (Ran n j) = true
is_work (Post n csw sense code) = true
is_work _ = false

-- the trace of a book has grown by such entries alone, on the device as it was mounted
pub record Grew {D : Type 0} (old new : Book D) : Type 0 where
  pub mounted : new.mounted ≡ old.mounted
  pub later : List Entry
  pub is : new.trace ≡ later ++ old.trace
  pub only : list_all is_work later ≡ true

-- the book of a unit has grown
pub record Works {D : Type 0} (old new : Locked D) : Type 0 where
  pub unit : new.unit ≡ old.unit
  pub book : Grew old.book new.book

-- what is in each of several vectors
abbrev pub items_of_all : {X A : Type 0} → List (Vec X A) → List (List X)
items_of_all vectors = map (λ vector. vector.items) vectors

-- the list of a unit, of one list for each
abbrev pub list_of : List (List PostedState) → ℕ → List PostedState
list_of lists unit = slice_index_or lists unit []

-- the lists of a task, of lists for each unit for each task
abbrev pub lists_of : List (List (List PostedState)) → ℕ → List (List PostedState)
lists_of posts task = slice_index_or posts task []

-- a task has collected these values, and those of each unit come after what was in the unit's list
pub record Gathers (units : ℕ) (old new : TaskState) (before after : List (List PostedState)) : Type 0 where
  pub values : List PostedState
  pub task : new ≡ record old { got = old.got ++ values }
  pub lists : (unit : ℕ) → unit < units → list_of after unit ≡ list_of before unit ++ of_sender unit_of unit values

-- each task has collected values, which are in its lists
pub record CollectsAll (units : ℕ) (old new : List TaskState) (before after : List (List (List PostedState))) : Type 0 where
  pub count : length new ≡ length old
  pub each : (t : ℕ) (w v : TaskState) → slice_get old t ≡ Some w → slice_get new t ≡ Some v →
      Gathers units w v (lists_of before t) (lists_of after t)
