-- ORDERS OF REQUESTS to a unit, by the commands of a script (profile).
use Rattle.std.specs.Prelude.{◌≡◌, ◌<◌, ℕ, Bool, true, false, Some, List, length, slice_get}
use Rattle.std.specs.List.{list_any}
use Rattle.request_piece.specs.declared.piece.Piece.{Piece}
use Rattle.unit_book.specs.Lists.{Each}
use Rattle.fifo_row.specs.Lists.{of_sender}
use Rattle.excp_system.specs.Sites.{task_of}
use Rattle.job_script.specs.Said.{ActionSaid, Said, close, excp, purge, purge_task, reset, wait}
use Rattle.job_run.specs.Requests.{excps, requests_from}

-- the action is a purge, a close or a reset
abbrev pub asks_control : ActionSaid → Bool
asks_control (excp e) = false
asks_control (purge dcb mode) = true
asks_control (purge_task other mode) = true
asks_control (close dcb) = true
asks_control (reset dcb) = true
asks_control wait = false

-- no command of the script is a purge, a close or a reset
abbrev pub AsksNothing : Said → Type 0
AsksNothing s = list_any (λ c. asks_control c.action) s.commands ≡ false

-- AN ORDER of the requests to a unit: it has each task's requests to the unit, in the order of the task, and no others
pub record IsOrder (s : Said) (unit : ℕ) (order : List Piece) : Type 0 where
  pub of_each : (task : ℕ) → task < s.set_up.tasks → of_sender task_of task order ≡ requests_from task 1 (excps task unit s.commands)
  pub of_tasks : Each (λ r. task_of r < s.set_up.tasks) order

-- an order for each unit of the script
pub record AreOrders (s : Said) (orders : List (List Piece)) : Type 0 where
  pub count : length orders ≡ length s.set_up.units
  pub each : (unit : ℕ) (order : List Piece) → slice_get orders unit ≡ Some order → IsOrder s unit order
