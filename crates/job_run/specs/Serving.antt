-- WHAT A RUN WITHOUT CONTROLS PRINTS: what its requests give if each unit serves them one at a time (profile).
use Rattle.std.specs.Prelude.{◌≡◌, ℕ, List, [], ◌++◌, Option, Ok, map}
use Rattle.std.specs.Io.KnownBytes.{Appends}
use Rattle.request_piece.specs.declared.piece.Piece.{Piece}
use Rattle.any_device.specs.declared.device.AnyDevice.{AnyDevice}
use Rattle.unit_book.specs.Book.{Book}
use Rattle.job_script.specs.Grammar.{script_of}
use Rattle.job_script.specs.Reading.{ReadsAll}
use Rattle.job_script.specs.Said.{Said}
use Rattle.job_mount.specs.Mounting.{books_with}
use Rattle.post_lines.specs.Lines.{count_text}
use Rattle.job_run.specs.declared.task_end.TaskEnd.{TaskEnd}
use Rattle.job_run.specs.OneTask.{AreOfOneTask, expected_text}
use Rattle.job_run.specs.Orders.{AreOrders, AsksNothing}
use Rattle.job_run.specs.Printing.{ended_slots, excp_count, tasks_text}
use Rattle.job_run.specs.Serial.{serial_text}

-- ONE AT A TIME: the units begin with the books of the script, and serve its requests one at a time in some order, which keeps
-- each task's; this is their text. If one task uses each unit, it is the expected text
pub record IsOneAtATime (given : List (Option AnyDevice)) (s : Said) (text : List ℕ) : Type 0 where
  pub first_books : List (Book AnyDevice)
  pub mounted : books_with given 1 s ≡ Ok first_books
  pub orders : List (List Piece)
  pub are_orders : AreOrders s orders
  pub text_is : text ≡ serial_text s first_books orders
  pub expected : AreOfOneTask s → expected_text given s ≡ Ok text

-- the text of a run, by what its tasks left
abbrev pub left_text : {N : Type 0} → Said → List (TaskEnd N) → List ℕ
left_text s tasks = tasks_text 0 (map ended_slots tasks) ++ count_text (excp_count s.commands)

-- a run of a parsed script: if it asks for no control, its text is that of one at a time
abbrev pub LeavesOneAtATime : {N : Type 0} → List (Option AnyDevice) → Said → List (TaskEnd N) → Type 0
LeavesOneAtATime given s tasks = AsksNothing s → IsOneAtATime given s (left_text s tasks)

-- FROM BYTES TO BYTES: all bytes were read, at most n; they are a script without a fault; and if it asks for no purge, close or
-- reset, what was written is the text of its requests one at a time
pub record WritesOneAtATime (n : ℕ) (old new before after : Option (List ℕ)) : Type 0 where
  pub script : List ℕ
  pub whole : ReadsAll n old new script
  pub says : Said
  pub parsed : script_of script ≡ Ok says
  pub text : List ℕ
  pub written : Appends before after text
  pub serial : AsksNothing says → IsOneAtATime [] says text
