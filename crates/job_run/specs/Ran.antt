-- WHAT THE UNITS OF A SCRIPT HAVE DONE after a run that was brought to its end (profile).
use Rattle.std.specs.Prelude.{◌≡◌, ◌<◌, ℕ, List, Result, Ok, Err, Some, length, slice_get}
use Rattle.std.specs.List.{All}
use Rattle.any_device.specs.Devices.{any_device}
use Rattle.any_device.specs.declared.device.AnyDevice.{AnyDevice}
use Rattle.unit_book.specs.Book.{Book}
use Rattle.unit_book.specs.Legal.{Legal}
use Rattle.unit_book.specs.Lists.{Each}
use Rattle.unit_book.specs.Settle.{IsIdle}
use Rattle.unit_book.specs.Trace.{arrivals}
use Rattle.unit_book.specs.WorldLaws.{posts_of}
use Rattle.fifo_row.specs.Lists.{of_sender}
use Rattle.excp_system.specs.Sites.{task_of}
use Rattle.job_script.specs.Said.{Said}
use Rattle.serial_order.specs.Laws.{IsUncontrolled}
use Rattle.job_run.specs.Controls.{AsksNone}
use Rattle.job_run.specs.Requests.{excps, requests_from}

-- the task has no fault: it did all its commands
abbrev pub IsDone : {L E : Type 0} → Result L E → Type 0
IsDone (Ok x) = Unit {0}
IsDone (Err e) = ⊥

-- each trace is legal and idle; what arrived at each unit is of tasks of the script, of each task the requests of its EXCPs
-- there, in order; each of them has one post; and the trace of a unit that the script asks no control has none
pub record Ran (s : Said) (books : List (Book AnyDevice)) : Type 0 where
  pub count : length books ≡ length s.set_up.units
  pub legal : All (λ b. Legal any_device b.mounted b.trace) books
  pub idle : All (λ b. IsIdle b.trace) books
  pub of_tasks : All (λ b. Each (λ r. task_of r < s.set_up.tasks) (arrivals b.trace)) books
  pub received : (t u : ℕ) (b : Book AnyDevice) → t < s.set_up.tasks → slice_get books u ≡ Some b →
      of_sender task_of t (arrivals b.trace) ≡ requests_from t 1 (excps t u s.commands)
  pub posted_once : (t u : ℕ) (b : Book AnyDevice) → t < s.set_up.tasks → slice_get books u ≡ Some b →
      Each (λ r. posts_of r.name b.trace ≡ 1) (requests_from t 1 (excps t u s.commands))
  pub uncontrolled : (u : ℕ) (b : Book AnyDevice) → slice_get books u ≡ Some b → AsksNone s u → IsUncontrolled any_device b.mounted b.trace
