-- HOW LARGE ROWS AND BOOKS ARE: large enough for each request that may be under way (profile).
use Rattle.std.specs.Prelude.{◌≡◌, ◌*◌, ℕ, List, max, min, vec_len}
use Rattle.std.specs.List.{All}
use Rattle.unit_book.specs.Book.{Book}
use Rattle.excp_system.specs.Opening.{AreBooks, AreFresh, RowsState}
use Rattle.job_script.specs.Commands.{most, request_count_of, request_count_to}
use Rattle.job_script.specs.declared.script.Script.{Script}

-- the most requests of a task that are under way
abbrev pub most_under_way : ℕ
most_under_way = 256

-- the capacity for a number of requests, of which this many may be in progress: 1 at least
abbrev pub room_for : ℕ → ℕ → ℕ
room_for under_way requests = min (max requests 1) under_way

-- the capacity for the requests to one unit: the most that the script issues to any unit
abbrev pub room_of_a_unit : Script → ℕ
room_of_a_unit script =
    room_for (most_under_way * script.set_up.tasks) (most (request_count_to script.commands.items) (vec_len script.set_up.units))

-- the capacity for the requests of one task: the most that the script issues by any task
abbrev pub room_of_a_task : Script → ℕ
room_of_a_task script = room_for most_under_way (most (request_count_of script.commands.items) script.set_up.tasks)

-- the unused rows of the tasks and units of a script: an intake row has room for the requests to a unit, a post row for
-- those of a task
pub record AreRowsOf (script : Script) (rows : RowsState) : Type 0 where
  pub tasks : rows.tasks ≡ script.set_up.tasks
  pub units : rows.units ≡ vec_len script.set_up.units
  pub intake : rows.intake_capacity ≡ room_of_a_unit script
  pub post : rows.post_capacity ≡ room_of_a_task script
  pub fresh : AreFresh rows

-- a book for each unit of a script, with room for the requests to a unit, in which nothing happened but openings of
-- DCBs
pub record AreBooksOf {D : Type 0} (script : Script) (books : List (Book D)) : Type 0 where
  pub opened : AreBooks (vec_len script.set_up.units) books
  pub room : All (λ book. book.capacity ≡ room_of_a_unit script) books
