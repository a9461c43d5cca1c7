-- The size of a printer never changes: the lines that it prints at most, and the faults of its script.
use Rattle.std.specs.Prelude.{◌≡◌, ℕ, Bool, true, false, ◌||◌, List, [], ◌∷◌, Option, Some, None, length, refl, if◌then◌else◌}
use Rattle.device_port.specs.declared.faults.Fault.{Fault}
use Rattle.device_port.specs.Faults.{fault_met, counted}
use Rattle.device_port.specs.FixedSize.{KeepsSize}
use Rattle.device_port.specs.Meaning.{Outcome}
use Rattle.line_printer.specs.declared.command.Command.{Command}
use Rattle.line_printer.specs.declared.command.Command.TheVariants.{NoOperation, Sense, Print, Move}
use Rattle.line_printer.specs.Paper.{after_motion}
use Rattle.line_printer.specs.Command.{command_of}
use Rattle.line_printer.specs.Printer.{PrinterState, printer, is_full, is_past, command_on, act_by}

-- THE SIZE OF A PRINTER: the faults of its script, and the lines that it prints at most
abbrev pub printer_size : PrinterState → List ℕ
printer_size p = length p.ordinals.script ∷ p.most ∷ []

either_keeps : (past : Bool) (p : PrinterState) (x y : Outcome PrinterState) → printer_size x.device ≡ printer_size p →
    printer_size y.device ≡ printer_size p → printer_size (if past then x else y).device ≡ printer_size p
either_keeps true p x y a b = a
either_keeps false p x y a b = b

command_keeps : (p : PrinterState) (command : Option Command) (given : List ℕ) →
    printer_size (command_on p command given).device ≡ printer_size p
command_keeps p None given = refl
command_keeps p (Some NoOperation) given = refl
command_keeps p (Some Sense) given = refl
command_keeps p (Some (Print motion)) given = either_keeps (is_full p || is_past p (after_motion motion p.at)) p _ _ refl refl
command_keeps p (Some (Move motion)) given = either_keeps (is_past p (after_motion motion p.at)) p _ _ refl refl

keeps_by : (fault : Option Fault) (p : PrinterState) (code : ℕ) (given : List ℕ) →
    printer_size (act_by fault p code given).device ≡ printer_size p
keeps_by None p code given = command_keeps p (command_of code) given
keeps_by (Some fault) p code given = refl

-- THE SIZE STAYS
pub printer_keeps_size : KeepsSize printer printer_size
printer_keeps_size = record {
  after_act = λ p code given. keeps_by (fault_met p.ordinals) (record p { ordinals = counted p.ordinals }) code given;
  after_prefix = λ p seek mask. refl;
}
