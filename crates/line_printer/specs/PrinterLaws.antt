-- The printer keeps the laws of a device.
use Rattle.std.specs.Prelude.{◌≡◌, ℕ, Bool, true, false, List, Option, Some, None, refl, if◌then◌else◌}
use Rattle.device_port.specs.declared.faults.Fault.{Fault}
use Rattle.device_port.specs.Faults.{fault_met, counted}
use Rattle.device_port.specs.Meaning.{Outcome, Lawful, GivesWhatItWants}
use Rattle.device_port.specs.MeaningLaws.{gives_nothing}
use Rattle.line_printer.specs.declared.command.Command.{Command}
use Rattle.line_printer.specs.declared.command.Command.TheVariants.{NoOperation, Sense, Print, Move}
use Rattle.line_printer.specs.Paper.{after_motion}
use Rattle.line_printer.specs.Command.{command_of, flow_of}
use Rattle.line_printer.specs.Printer.{PrinterState, printer, is_past, command_on, act_by}

-- a command without data wants none
either_wants : (past : Bool) (x y : Outcome PrinterState) → x.acted.want ≡ 0 → y.acted.want ≡ 0 → (if past then x else y).acted.want ≡ 0
either_wants true x y a b = a
either_wants false x y a b = b

command_gives : (p : PrinterState) (command : Option Command) (given : List ℕ) →
    GivesWhatItWants (flow_of command) (command_on p command given)
command_gives p None given = refl
command_gives p (Some NoOperation) given = refl
command_gives p (Some Sense) given = refl
command_gives p (Some (Print motion)) given = tt
command_gives p (Some (Move motion)) given = either_wants (is_past p (after_motion motion p.at)) _ _ refl refl

gives_by : (fault : Option Fault) (p : PrinterState) (code : ℕ) (given : List ℕ)
    → GivesWhatItWants (flow_of (command_of code)) (act_by fault p code given)
gives_by None p code given = command_gives p (command_of code) given
gives_by (Some fault) p code given = gives_nothing (flow_of (command_of code)) (act_by (Some fault) p code given) refl refl

-- THE LAWS
pub printer_lawful : Lawful printer
printer_lawful = record {
  kind_after_act = λ p code given. refl;
  cylinders_after_act = λ p code given. refl;
  heads_after_act = λ p code given. refl;
  kind_after_prefix = λ p seek mask. refl;
  cylinders_after_prefix = λ p seek mask. refl;
  heads_after_prefix = λ p seek mask. refl;
  cylinders_off_disk = λ d off. refl;
  heads_off_disk = λ d off. refl;
  prefix_off_disk = λ d seek mask off. refl;
  gives = λ p code given. gives_by (fault_met p.ordinals) (record p { ordinals = counted p.ordinals }) code given;
}
