-- UNITS AND TASKS AND THEIR ENDS OF THE ROWS (profile).
use Rattle.std.specs.Prelude.{◌≡◌, ◌<◌, ℕ, Bool, false, List, [], length, ◌++◌, Some, slice_get}
use Rattle.device_port.specs.Meaning.{Meaning}
use Rattle.request_piece.specs.PostedState.{PostedState}
use Rattle.request_piece.specs.declared.piece.Piece.{Piece}
use Rattle.unit_book.specs.declared.entry.Entry.{Entry}
use Rattle.unit_book.specs.Book.{Book, given}
use Rattle.unit_book.specs.Legal.{Legal}
use Rattle.unit_book.specs.Posts.{posted}
use Rattle.unit_book.specs.Trace.{arrivals}
use Rattle.fifo_row.specs.Ends.{Taking}
use Rattle.fifo_row.specs.Lists.{of_sender}
use Rattle.excp_system.specs.Sites.{SiteRows, intake_rows, post_rows, task_of, unit_of, for_task, taker_of}
use Rattle.signed_list.specs.Signed.{items_of, signed_by}
use Rattle.unit_book.specs.declared.control.Control.{Control}
use Rattle.excp_system.specs.Controls.{Controlled, KeepsLog, LogState, PensState, asked_of}
use Rattle.excp_system.specs.Fans.{FanState, sent_to}
use Rattle.excp_system.specs.States.{Locked, TaskState, sent_by}

-- the book of a unit
abbrev pub book_of : {D : Type 0} → Locked D → Book D
book_of v = v.book

-- a unit's end of its intake row
abbrev pub intake_end : {D : Type 0} → SiteRows → Locked D → Taking Piece
intake_end s v = taker_of (intake_rows s) s.tasks v.unit (arrivals v.book.trace)

-- a task's end of its post row
abbrev pub post_end : SiteRows → TaskState → Taking PostedState
post_end s w = taker_of (post_rows s) s.units w.number w.got

-- a task's ends of the intake rows
abbrev pub out_of : TaskState → FanState Piece
out_of w = record { number = w.number; sent = w.sent }

-- a task's pens
abbrev pub hand_of : TaskState → PensState
hand_of w = record { number = w.number; asked = w.asked }

-- a unit's log
abbrev pub IsLogOf : {D : Type 0} → SiteRows → Bool → List (Book D) → Locked D → LogState → Type 0
IsLogOf s own_calls opened v l = KeepsLog s own_calls opened v.unit l v.book.trace

-- WHOSE THE CONTROLS OF A TRACE are, at a unit, since the trace of the book that was handed in for it. Each task's are what
-- the task asked of the unit, in order. All others are of the unit's own calls, under the number after those of the tasks.
-- If these calls may not be used, there are no others
pub record ControlledBy {D : Type 0} (own_calls : Bool) (opened : List (Book D)) (unit : ℕ) (H : List Entry) (tasks : List TaskState) :
    Type 0 where
  pub first : Book D
  pub is : slice_get opened unit ≡ Some first
  pub asked : List (ℕ × Control)
  pub controlled : Controlled own_calls first.trace (items_of asked) H
  pub of_tasks : (t : ℕ) (w : TaskState) → slice_get tasks t ≡ Some w → signed_by t asked ≡ asked_of w.asked unit
  pub no_other : (k : ℕ) → length tasks < k → signed_by k asked ≡ []
  pub no_own : own_calls ≡ false → signed_by (length tasks) asked ≡ []

-- one value of another list for each
pub record Paired {A B : Type 0} (P : A → B → Type 0) (xs : List A) (ys : List B) : Type 0 where
  pub count : length ys ≡ length xs
  pub each : (k : ℕ) (x : A) (y : B) → slice_get xs k ≡ Some x → slice_get ys k ≡ Some y → P x y

module _ {D : Type 0} (meaning : Meaning D) where
  -- what a book keeps: its trace is legal, and what it posted was given or is out
  pub record BookKeeps (b : Book D) : Type 0 where
    pub legal : Legal meaning b.mounted b.trace
    pub given : given meaning b ++ b.out ≡ posted meaning b.mounted b.trace

  -- a unit's ends of the post rows: each task was sent what the book gave of its values
  pub record IsBack (s : SiteRows) (v : Locked D) (f : FanState PostedState) : Type 0 where
    pub number_is : f.number ≡ v.unit
    pub count : length f.sent ≡ s.tasks
    pub sent : (task : ℕ) → task < s.tasks → sent_to f task ≡ of_sender for_task task (given meaning v.book)

  -- of each task and unit: what arrived is what the task sent, and what the task collected is what the book gave
  abbrev pub AreSettled : List (Locked D) → List TaskState → Type 0
  AreSettled units tasks = (u t : ℕ) (v : Locked D) (w : TaskState) →
      slice_get units u ≡ Some v → slice_get tasks t ≡ Some w →
      (of_sender task_of t (arrivals v.book.trace) ≡ sent_by w u) × (of_sender unit_of u w.got ≡ of_sender for_task t (given meaning v.book))

-- of each unit: whose its controls are
abbrev pub AreControlled : {D : Type 0} → Bool → List (Book D) → List (Locked D) → List TaskState → Type 0
AreControlled {D} own_calls opened units tasks =
    (u : ℕ) (v : Locked D) → slice_get units u ≡ Some v → ControlledBy own_calls opened u v.book.trace tasks
