-- WHAT A RUN OF A SCRIPT PRINTS: a line for each of its EXCPs, by what the units posted (profile).
use Rattle.std.specs.Prelude.{Bool, true, false, ℕ, zero, suc, ◌+◌, ◌==◌, Option, Some, None, List, [], ◌∷◌, ◌++◌, if◌then◌else◌, length}
use Rattle.std.specs.List.{filter}
use Rattle.request_piece.specs.PostedState.{PostedState}
use Rattle.any_device.specs.Devices.{any_device}
use Rattle.any_device.specs.declared.device.AnyDevice.{AnyDevice}
use Rattle.unit_book.specs.Book.{Book}
use Rattle.unit_book.specs.Posts.{posted}
use Rattle.fifo_row.specs.Lists.{of_sender}
use Rattle.excp_system.specs.Sites.{for_task}
use Rattle.job_script.specs.Said.{ActionSaid, CommandSaid, ExcpSaid, Said, excp}
use Rattle.post_lines.specs.Slots.{SlotState, posted_end, shown_in, slots_of}
use Rattle.post_lines.specs.Lines.{count_text, post_line, task_text}
use Rattle.job_run.specs.declared.task_end.TaskEnd.{TaskEnd}
use Rattle.job_run.specs.Requests.{excps}

-- what a unit posted for a task, in order
abbrev pub posts_for : ℕ → Book AnyDevice → List PostedState
posts_for task b = of_sender for_task task (posted any_device b.mounted b.trace)

-- the first of these posts with a number
abbrev pub first_numbered : ℕ → List PostedState → Option PostedState
first_numbered k [] = None
first_numbered k (p ∷ ps) = if p.name.seq == k then Some p else first_numbered k ps

-- the line of an EXCP, if it was posted: how it ended, and the bytes of its area that it shows
abbrev pub excp_text : ℕ → ℕ → ℕ → ExcpSaid → Option PostedState → List ℕ
excp_text task unit k e None = []
excp_text task unit k e (Some p) = post_line task unit k (posted_end p) (shown_in p.area e.show e.len)

-- the lines of these EXCPs of a task to a unit, which are numbered from k
abbrev pub excps_text : ℕ → ℕ → ℕ → List ExcpSaid → List PostedState → List ℕ
excps_text task unit k [] posts = []
excps_text task unit k (e ∷ es) posts = excp_text task unit k e (first_numbered k posts) ++ excps_text task unit (k + 1) es posts

-- the lines of a task's EXCPs to the units from this one on
abbrev pub books_text : List CommandSaid → ℕ → ℕ → List (Book AnyDevice) → List ℕ
books_text commands task unit [] = []
books_text commands task unit (b ∷ books) =
    excps_text task unit 1 (excps task unit commands) (posts_for task b) ++ books_text commands task (unit + 1) books

-- the lines of several tasks, of which this is the first
abbrev pub run_text : List CommandSaid → List (Book AnyDevice) → ℕ → ℕ → List ℕ
run_text commands books task zero = []
run_text commands books task (suc tasks) = books_text commands task 0 books ++ run_text commands books (task + 1) tasks

-- the lines of a script, by these books: sorted by task, unit and number
abbrev pub script_text : Said → List (Book AnyDevice) → List ℕ
script_text s books = run_text s.commands books 0 s.set_up.tasks

-- the action is an EXCP
abbrev pub issues : ActionSaid → Bool
issues (excp e) = true
issues _ = false

-- how many EXCPs these are
abbrev pub excp_count : List CommandSaid → ℕ
excp_count commands = length (filter (λ c. issues c.action) commands)

-- THE TEXT OF A RUN
abbrev pub posts_text : Said → List (Book AnyDevice) → List ℕ
posts_text s books = script_text s books ++ count_text (excp_count s.commands)

-- what the slots of a task hold that has ended
abbrev pub ended_slots : {N : Type 0} → TaskEnd N → List (List SlotState)
ended_slots end = slots_of end.slots

-- the lines of tasks, of which the first has this number, by what their slots hold
abbrev pub tasks_text : ℕ → List (List (List SlotState)) → List ℕ
tasks_text task [] = []
tasks_text task (slots ∷ tasks) = task_text task slots ++ tasks_text (task + 1) tasks
