-- WHAT THE TASKS OF A RUN DO (profile). A program says by `runs` what a task does: what it has sent, asked and collected
-- before and after its run, and its outcome.
use Rattle.std.specs.Prelude.{◌≡◌, ℕ, false, List, length, Option, Some, None, slice_get}
use Rattle.device_port.specs.Meaning.{Meaning}
use Rattle.unit_book.specs.Book.{Book}
use Rattle.excp_system.specs.Drained.{ArePlaced}
use Rattle.excp_system.specs.Opening.{fresh_task}
use Rattle.excp_system.specs.States.{TaskState}
use Rattle.post_ledger.specs.Report.{Controls, PostedOnce, Received, ReportState, Returned}

-- the task has ended, and this is what it did
abbrev pub HasRun : {O : Type 0} → (TaskState → TaskState → O → Type 0) → TaskState → TaskState → Option O → Type 0
HasRun runs old new None = ⊥
HasRun runs old new (Some outcome) = runs old new outcome

-- each task has done this since it had sent, asked and collected nothing, and left the outcome at its index
pub record AreRun {O : Type 0} (runs : TaskState → TaskState → O → Type 0) (units : ℕ) (tasks : List TaskState) (outcomes : List O) :
    Type 0 where
  pub count_is : length outcomes ≡ length tasks
  pub each : (t : ℕ) (w : TaskState) (o : O) → slice_get tasks t ≡ Some w → slice_get outcomes t ≡ Some o → runs (fresh_task units t) w o

-- the report is that of the tasks that left these outcomes, each at the index of its number: what arrived of a task is
-- what it sent, each of its requests has one post, and what it did not collect is listed. The purges, closes and resets of
-- each unit since these first books are those that the tasks asked of it, but for those that made no entry
pub record Accounts {D O : Type 0} (meaning : Meaning D) (runs : TaskState → TaskState → O → Type 0) (units count : ℕ)
    (opened : List (Book D)) (report : ReportState D) (outcomes : List O) : Type 0 where
  pub tasks : List TaskState
  pub placed : ArePlaced (λ task. task.number) count tasks
  pub run : AreRun runs units tasks outcomes
  pub received : Received report tasks
  pub controlled : Controls false opened report tasks
  pub posted_once : PostedOnce report tasks
  pub returned : Returned meaning report tasks
