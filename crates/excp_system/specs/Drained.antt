-- NOTHING ON ITS WAY between the units and the tasks (profile).
use Rattle.std.specs.Prelude.{◌≡◌, ℕ, List, [], length, Some, slice_get}
use Rattle.std.specs.List.{All}
use Rattle.device_port.specs.Meaning.{Meaning}
use Rattle.unit_book.specs.Book.{given}
use Rattle.unit_book.specs.Trace.{arrived_of}
use Rattle.fifo_row.specs.Lists.{of_sender}
use Rattle.excp_system.specs.Sites.{unit_of, for_task}
use Rattle.excp_system.specs.States.{Locked, TaskState, sent_by}

-- `count` units, or tasks, each at the index of its number
pub record ArePlaced {A : Type 0} (number : A → ℕ) (count : ℕ) (all : List A) : Type 0 where
  pub count_is : length all ≡ count
  pub each : (k : ℕ) (x : A) → slice_get all k ≡ Some x → number x ≡ k

module _ {D : Type 0} (meaning : Meaning D) where
  -- on the intake row of the unit as many requests of the task were taken as it sent, and on the post row of the task
  -- as many values of the unit as it sent
  pub record IsTaken (unit : Locked D) (task : TaskState) : Type 0 where
    pub requests : arrived_of task.number unit.book.trace ≡ length (sent_by task unit.unit)
    pub values : length (of_sender unit_of unit.unit task.got) ≡ length (of_sender for_task task.number (given meaning unit.book))

  -- nothing is out at the unit, and nothing is on its way between it and the tasks
  pub record IsDrained (tasks : List TaskState) (unit : Locked D) : Type 0 where
    pub out : unit.book.out ≡ []
    pub taken : All (IsTaken unit) tasks

  -- nothing is out at any unit, and nothing is on its way between any unit and any task
  abbrev pub Drained : List (Locked D) → List TaskState → Type 0
  Drained units tasks = All (IsDrained tasks) units
