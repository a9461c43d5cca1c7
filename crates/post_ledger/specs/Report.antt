-- WHAT A REPORT TELLS of a run that was brought to its end (profile). In what follows u is the number of a unit
-- with the book b in the report, and t that of a task w.
use Rattle.std.specs.Prelude.{◌≡◌, ◌<◌, ℕ, Bool, List, length, ◌++◌, Some, slice_get}
use Rattle.std.specs.List.{All}
use Rattle.device_port.specs.Meaning.{Meaning}
use Rattle.request_piece.specs.PostedState.{PostedState}
use Rattle.unit_book.specs.Book.{Book}
use Rattle.unit_book.specs.Legal.{Legal}
use Rattle.unit_book.specs.Lists.{Each}
use Rattle.unit_book.specs.Posts.{posted}
use Rattle.unit_book.specs.Settle.{IsIdle}
use Rattle.unit_book.specs.Trace.{arrivals}
use Rattle.unit_book.specs.WorldLaws.{posts_of}
use Rattle.fifo_row.specs.Lists.{of_sender}
use Rattle.excp_system.specs.Sites.{task_of, unit_of, for_task}
use Rattle.excp_system.specs.States.{TaskState, sent_by}
use Rattle.post_ledger.specs.Parting.{ControlledBy}
use Rattle.post_ledger.specs.Work.{list_of, lists_of}

-- the book of each unit; and for each task a list for each unit, of the posted values that the task had not collected
pub record ReportState (D : Type 0) : Type 0 where
  pub books : List (Book D)
  pub lists : List (List (List PostedState))

-- the list of a task and a unit
abbrev pub list_at : {D : Type 0} → ReportState D → ℕ → ℕ → List PostedState
list_at report task unit = list_of (lists_of report.lists task) unit

-- `units` units, and for each of `tasks` tasks a list for each unit
pub record IsFor {D : Type 0} (units tasks : ℕ) (report : ReportState D) : Type 0 where
  pub of_units : length report.books ≡ units
  pub of_tasks : length report.lists ≡ tasks
  pub of_each : All (λ lists. length lists ≡ units) report.lists

-- what holds of each unit and each task
abbrev pub OfEach : {D : Type 0} → (ℕ → ℕ → Book D → TaskState → Type 0) → ReportState D → List TaskState → Type 0
OfEach {D} P report tasks = (u t : ℕ) (b : Book D) (w : TaskState) →
    slice_get report.books u ≡ Some b → slice_get tasks t ≡ Some w → P u t b w

-- RECEIVED: what arrived of a task at a unit is what the task sent there, in order
abbrev pub Received : {D : Type 0} → ReportState D → List TaskState → Type 0
Received {D} report tasks = OfEach (λ u t b w. of_sender task_of t (arrivals b.trace) ≡ sent_by w u) report tasks

-- POSTED ONCE: each request that a task sent has one post
abbrev pub PostedOnce : {D : Type 0} → ReportState D → List TaskState → Type 0
PostedOnce {D} report tasks = OfEach (λ u t b w. Each (λ r. posts_of r.name b.trace ≡ 1) (sent_by w u)) report tasks

module _ {D : Type 0} (meaning : Meaning D) where
  -- each trace is legal
  abbrev pub AreLegal : ReportState D → Type 0
  AreLegal report = All (λ b. Legal meaning b.mounted b.trace) report.books

  -- RETURNED: what a task had collected of a unit, and then its list in the report, is what the unit posted for it
  abbrev pub Returned : ReportState D → List TaskState → Type 0
  Returned report tasks =
      OfEach (λ u t b w. of_sender unit_of u w.got ++ list_at report t u ≡ of_sender for_task t (posted meaning b.mounted b.trace)) report tasks

  -- RETURNED, while a report is made: what `lists` hold was collected for it already, and the rest is in the report
  abbrev pub ReturnedRest : List (List (List PostedState)) → ReportState D → List TaskState → Type 0
  ReturnedRest lists report tasks =
      OfEach (λ u t b w. (before : List PostedState) → of_sender unit_of u w.got ≡ before ++ list_of (lists_of lists t) u →
      before ++ list_at report t u ≡ of_sender for_task t (posted meaning b.mounted b.trace)) report tasks

-- CONTROLLED: the purges, closes and resets of a unit since its first book are those that the tasks asked of it, and those
-- of its own calls, if these may be used, but for those that made no entry
abbrev pub Controls : {D : Type 0} → Bool → List (Book D) → ReportState D → List TaskState → Type 0
Controls {D} own_calls opened report tasks =
    (u : ℕ) (b : Book D) → slice_get report.books u ≡ Some b → ControlledBy own_calls opened u b.trace tasks

-- what arrived at each unit is of tasks below this number
abbrev pub AreOfTasks : {D : Type 0} → ℕ → ReportState D → Type 0
AreOfTasks tasks report = All (λ b. Each (λ r. task_of r < tasks) (arrivals b.trace)) report.books

-- nothing waits and nothing is active at any unit
abbrev pub AreIdle : {D : Type 0} → ReportState D → Type 0
AreIdle report = All (λ b. IsIdle b.trace) report.books
