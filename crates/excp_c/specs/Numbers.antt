-- THE NUMBERS of c/excp.h that a caller gives: methods, modes and faults; and those of steps, in c/excp.c.
use Rattle.std.specs.Prelude.{◌==◌, ℕ, zero, suc, if◌then◌else◌, Option, Some, None, nat_le}
use Rattle.device_port.specs.declared.faults.Fault.{Fault}
use Rattle.unit_book.specs.declared.dcb.ProcessingMethod.{ProcessingMethod}
use Rattle.unit_book.specs.declared.dcb.ProcessingMethod.TheVariants as methods
use Rattle.unit_book.specs.declared.entry.Mode.{Mode}
use Rattle.unit_book.specs.declared.entry.Mode.TheVariants as modes
use Rattle.request_piece.specs.declared.scope.Scope.{Scope}
use Rattle.request_piece.specs.declared.scope.Scope.TheVariants.{Dcb, Task}
use Rattle.unit_book.specs.declared.control.Control.{Control}
use Rattle.unit_book.specs.declared.control.Control.TheVariants as control
use Rattle.unit_book.specs.declared.step.UnitStep.{UnitStep}
use Rattle.unit_book.specs.declared.step.UnitStep.TheVariants as step

abbrev pub method_from_c : ℕ → Option ProcessingMethod
method_from_c zero = Some methods.Input
method_from_c (suc zero) = Some methods.Output
method_from_c (suc (suc n)) = None

abbrev pub mode_from_c : ℕ → Option Mode
mode_from_c zero = Some modes.Quiesce
mode_from_c (suc zero) = Some modes.Halt
mode_from_c (suc (suc n)) = None

-- the purge with this scope, if the mode is one
abbrev pub purge_by : Scope → Option Mode → Option Control
purge_by scope None = None
purge_by scope (Some mode) = Some (control.Purge scope mode)

-- A CONTROL by the number of its kind, that of its DCB or task, and that of its mode
abbrev pub control_by : ℕ → ℕ → ℕ → Option Control
control_by kind number mode =
    if kind == 3 then purge_by (Dcb number) (mode_from_c mode)
    else if kind == 4 then purge_by (Task number) (mode_from_c mode)
    else if kind == 5 then Some (control.Close number)
    else if kind == 6 then Some (control.Reset number)
    else None

abbrev pub control_from_c : ℕ → ℕ → ℕ → Option Control
control_from_c kind number mode = if nat_le number 65535 then control_by kind number mode else None

abbrev pub step_by : Option Control → Option UnitStep
step_by None = None
step_by (Some c) = Some (step.Control c)

-- A STEP by the number of its kind, and, of a run, that of its commands
abbrev pub step_from_c : ℕ → ℕ → ℕ → Option UnitStep
step_from_c kind number mode =
    if kind == 0 then Some step.Start
    else if kind == 1 then Some (step.Run number)
    else if kind == 2 then Some step.Interrupt
    else step_by (control_from_c kind number mode)

-- the fault of a device's command with these numbers
abbrev pub fault_from_c : ℕ → ℕ → ℕ → ℕ → Fault
fault_from_c command unit channel sense = record { ordinal = command; unit = record { 0 = unit }; sub = record { 0 = channel }; sense = sense }
