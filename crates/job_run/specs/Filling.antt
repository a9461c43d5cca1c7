-- WHICH SLOTS A TASK HAS, and what fills them while it collects posts (profile).
use Rattle.std.specs.Prelude.{◌≡◌, ◌<◌, ◌+◌, ℕ, Result, Ok, Err, List, [], ◌∷◌, ◌++◌, length, map, replicate, slice_index_or, vec_len}
use Rattle.job_script.specs.declared.command.Action.{Action}
use Rattle.job_script.specs.declared.command.Action.TheVariants.{Excp, Purge, PurgeTask, Close, Reset, Wait}
use Rattle.job_script.specs.declared.script.Script.{Script}
use Rattle.post_lines.specs.Slots.{SlotState, expected, filled, filled_by_all}
use Rattle.request_piece.specs.PostedState.{PostedState}
use Rattle.post_ledger.specs.Work.{lists_of}
use Rattle.excp_system.specs.States.{TaskState}
use Rattle.job_run.specs.declared.task_end.TaskEnd.{TaskEnd}
use Rattle.job_run.specs.declared.task_error.TaskError.{TaskError}
use Rattle.job_run.specs.Printing.{ended_slots}
use Rattle.job_run.specs.Sending.{DoesScript, does_all}

-- an EXCP has a slot at its unit
abbrev pub expects : Action → List (List SlotState) → List (List SlotState)
expects (Excp e) slots = expected e.dcb.unit e.show e.len slots
expects (Purge dcb mode) slots = slots
expects (PurgeTask other mode) slots = slots
expects (Close dcb) slots = slots
expects (Reset dcb) slots = slots
expects Wait slots = slots

-- THE SLOTS OF A TASK of a script: one for each of its EXCPs, in order
abbrev pub slots_for : Script → ℕ → List (List SlotState)
slots_for script task = does_all expects task script.commands.items (replicate (vec_len script.set_up.units) [])

-- a task has collected posts, and its slots were filled with these, one after another, and with no other
pub record FillsSlots (old : List PostedState) (before : List (List SlotState)) (new : List PostedState) (after : List (List SlotState)) :
    Type 0 where
  pub values : List PostedState
  pub got : new ≡ old ++ values
  pub filled_is : after ≡ filled_by_all values before

-- the slots of a task with these posts of a unit, one after another
abbrev pub filled_at : ℕ → List PostedState → List (List SlotState) → List (List SlotState)
filled_at unit [] slots = slots
filled_at unit (p ∷ ps) slots = filled_at unit ps (filled unit p slots)

-- with the posts that are listed for each unit, from this unit on
abbrev pub listed_from : ℕ → List (List PostedState) → List (List SlotState) → List (List SlotState)
listed_from unit [] slots = slots
listed_from unit (posts ∷ lists) slots = listed_from (unit + 1) lists (filled_at unit posts slots)

-- the slots of a task, of all tasks
abbrev pub slots_at : List (List (List SlotState)) → ℕ → List (List SlotState)
slots_at tasks task = slice_index_or tasks task []

-- the slots of each task were filled with what is listed for it
pub record AllListed (lists : List (List (List PostedState))) (old new : List (List (List SlotState))) : Type 0 where
  pub count : length new ≡ length old
  pub each : (t : ℕ) → t < length old → slots_at new t ≡ listed_from 0 (lists_of lists t) (slots_at old t)

-- a task that did its commands to their end has filled its slots with what it collected
abbrev pub FillsOwn : {N : Type 0} → Script → TaskState → TaskState → Result (TaskEnd N) TaskError → Type 0
FillsOwn script old new (Ok end) = FillsSlots old.got (slots_for script old.number) new.got (ended_slots end)
FillsOwn script old new (Err fault) = Unit {0}

-- WHAT A TASK OF A SCRIPT DOES, from its first command on
pub record RunsScript {N : Type 0} (script : Script) (old new : TaskState) (outcome : Result (TaskEnd N) TaskError) : Type 0 where
  pub does : DoesScript script.commands.items old new outcome
  pub fills : FillsOwn script old new outcome

-- the ends of tasks are those that the tasks left, and then each was filled with what is listed for it
pub record EndedBy {N : Type 0} (lists : List (List (List PostedState))) (outcomes : List (Result (TaskEnd N) TaskError))
    (ends : List (TaskEnd N)) : Type 0 where
  pub first : List (TaskEnd N)
  pub made : map Ok first ≡ outcomes
  pub listed : AllListed lists (map ended_slots first) (map ended_slots ends)
