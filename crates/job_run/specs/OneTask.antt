-- UNITS THAT ONE TASK USES ALONE, and the text of a script whose units are so used (profile).
use Rattle.std.specs.Prelude.{◌≡◌, ◌≢◌, ◌<◌, ℕ, zero, suc, ◌+◌, List, [], ◌∷◌, ◌++◌, Option, Result, Ok, length}
use Rattle.request_piece.specs.declared.piece.Piece.{Piece}
use Rattle.any_device.specs.declared.device.AnyDevice.{AnyDevice}
use Rattle.job_script.specs.Grammar.{FaultAt}
use Rattle.job_script.specs.Said.{CommandSaid, Said}
use Rattle.job_mount.specs.Mounting.{◌>>=◌, books_with}
use Rattle.job_run.specs.Requests.{excps, requests_from}
use Rattle.job_run.specs.Serial.{serial_text}

-- one task uses the unit: no other task has an EXCP to it
pub record IsOfOneTask (s : Said) (unit : ℕ) : Type 0 where
  pub owner : ℕ
  pub no_other : (task : ℕ) → task < s.set_up.tasks → task ≢ owner → excps task unit s.commands ≡ []

-- one task uses each unit of the script
abbrev pub AreOfOneTask : Said → Type 0
AreOfOneTask s = (unit : ℕ) → unit < length s.set_up.units → IsOfOneTask s unit

-- the requests of several tasks to a unit, task after task, from this task on
abbrev pub task_after_task : List CommandSaid → ℕ → ℕ → ℕ → List Piece
task_after_task commands unit task zero = []
task_after_task commands unit task (suc tasks) =
    requests_from task 1 (excps task unit commands) ++ task_after_task commands unit (task + 1) tasks

-- the requests to each of several units, from this unit on
abbrev pub unit_after_unit : Said → ℕ → ℕ → List (List Piece)
unit_after_unit s unit zero = []
unit_after_unit s unit (suc units) = task_after_task s.commands unit 0 s.set_up.tasks ∷ unit_after_unit s (unit + 1) units

-- THE EXPECTED TEXT of a script whose units are given these devices, or its first fault: each unit serves the requests of its
-- task one at a time. Its books have room for one request at a time
abbrev pub expected_text : List (Option AnyDevice) → Said → Result (List ℕ) FaultAt
expected_text given s = do
  first_books ← books_with given 1 s
  Ok (serial_text s first_books (unit_after_unit s 0 (length s.set_up.units)))
