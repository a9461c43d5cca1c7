-- THE CONTROLS OF A TASK AT A UNIT, by the commands of a script, and whose the controls of a unit are (profile).
use Rattle.std.specs.Prelude.{◌≡◌, ◌<◌, ◌≤◌, ◌==◌, ℕ, false, List, [], ◌∷◌, ◌++◌, Some, slice_get, if◌then◌else◌}
use Rattle.request_piece.specs.declared.scope.Scope.TheVariants.{Dcb, Task}
use Rattle.any_device.specs.declared.device.AnyDevice.{AnyDevice}
use Rattle.unit_book.specs.Book.{Book}
use Rattle.signed_list.specs.Signed.{items_of, signed_by}
use Rattle.excp_system.specs.Controls.{Controlled}
use Rattle.unit_book.specs.declared.control.Control.{Control}
use Rattle.unit_book.specs.declared.control.Control.TheVariants.{Purge, Close, Reset}
use Rattle.job_script.specs.Said.{ActionSaid, CommandSaid, Said, close, excp, purge, purge_task, reset, wait}

-- the control that an action asks of a unit, if it asks one: a purge of a task is asked of every unit
abbrev pub control_to : ℕ → ActionSaid → List Control
control_to unit (excp e) = []
control_to unit (purge dcb mode) = if dcb.unit == unit then Purge (Dcb dcb.number) mode ∷ [] else []
control_to unit (purge_task other mode) = Purge (Task other) mode ∷ []
control_to unit (close dcb) = if dcb.unit == unit then Close dcb.number ∷ [] else []
control_to unit (reset dcb) = if dcb.unit == unit then Reset dcb.number ∷ [] else []
control_to unit wait = []

-- the controls that a task asks of a unit, in order
unfoldable pub asked_controls : ℕ → ℕ → List CommandSaid → List Control
asked_controls task unit [] = []
asked_controls task unit (c ∷ others) = (if c.task == task then control_to unit c.action else []) ++ asked_controls task unit others

-- the script asks no control of a unit
abbrev pub AsksNone : Said → ℕ → Type 0
AsksNone s unit = (t : ℕ) → t < s.set_up.tasks → asked_controls t unit s.commands ≡ []

-- WHOSE THE CONTROLS OF A UNIT are after a run of a script that began with these books. Each task's are the purges, closes
-- and resets of its commands at the unit, in order, and there are no others. Some made no entry
pub record ControlledAs (s : Said) (opened : List (Book AnyDevice)) (unit : ℕ) (b : Book AnyDevice) : Type 0 where
  pub first : Book AnyDevice
  pub is : slice_get opened unit ≡ Some first
  pub asked : List (ℕ × Control)
  pub controlled : Controlled false first.trace (items_of asked) b.trace
  pub by_tasks : (t : ℕ) → t < s.set_up.tasks → signed_by t asked ≡ asked_controls t unit s.commands
  pub no_other : (k : ℕ) → s.set_up.tasks ≤ k → signed_by k asked ≡ []

-- of each of these books, in order of unit
abbrev pub AreControlledAs : Said → List (Book AnyDevice) → List (Book AnyDevice) → Type 0
AreControlledAs s opened books = (unit : ℕ) (b : Book AnyDevice) → slice_get books unit ≡ Some b → ControlledAs s opened unit b
