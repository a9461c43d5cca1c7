-- A line printer: what it has printed, the position of its paper, and what its commands mean (line printers, in the
-- profile's choice).
use Rattle.std.specs.Prelude.{ℕ, List, [], ◌∷◌, ◌++◌, Option, Some, None, Bool, nat_lt, nat_le, ◌||◌, length, take, if◌then◌else◌}
use Rattle.device_port.specs.declared.faults.Fault.{Fault}
use Rattle.device_port.specs.declared.kind.Kind.TheVariants as kind
use Rattle.device_port.specs.Answers.{normal_end}
use Rattle.device_port.specs.Common.{unchanged, no_operation, sense, checked, unlisted, faulted}
use Rattle.device_port.specs.Faults.{Ordinals, fault_met, counted}
use Rattle.device_port.specs.Meaning.{Meaning, Outcome}
use Rattle.device_port.specs.Sense.{intervention_required}
use Rattle.line_printer.specs.declared.command.Command.{Command}
use Rattle.line_printer.specs.declared.command.Command.TheVariants.{NoOperation, Sense, Print, Move}
use Rattle.line_printer.specs.declared.paper.Motion.{Motion}
use Rattle.line_printer.specs.declared.paper.PaperPosition.{PaperPosition}
use Rattle.line_printer.specs.Paper.{Line, after_motion}
use Rattle.line_printer.specs.Command.{command_of, flow_of}

-- A PRINTER: how many lines and pages it prints at most, the lines that it has printed, the oldest first, and the
-- position of the next one
pub record PrinterState : Type 0 where
  pub most : ℕ
  pub pages : ℕ
  pub printed : List Line
  pub at : PaperPosition
  pub ordinals : Ordinals

-- the list of printed lines is full
abbrev pub is_full : PrinterState → Bool
is_full printer = nat_le printer.most (length printer.printed)

-- a position is after the last page
abbrev pub is_past : PrinterState → PaperPosition → Bool
is_past printer at = nat_lt printer.pages at.page

-- a line has 132 columns: what is given beyond is not printed
abbrev pub columns_of : List ℕ → List ℕ
columns_of given = take 132 given

-- the printer with one line more, and its paper at another position
abbrev pub with_line : PrinterState → List ℕ → PaperPosition → PrinterState
with_line printer bytes to = record printer { printed = printer.printed ++ record { at = printer.at; bytes = bytes } ∷ []; at = to }

-- PRINT a line at the position of the paper, then move the paper: 01 by no line, 09 by one, 11 by two, 19 by three, 89
-- to channel 1. Without room for the line, or after the last page, the operator has to put paper in
abbrev pub print : PrinterState → Motion → List ℕ → Outcome PrinterState
print printer motion given =
    let to = after_motion motion printer.at in
    let bytes = columns_of given in
    if is_full printer || is_past printer to then checked printer intervention_required
    else unchanged (with_line printer bytes to) (normal_end (length bytes))

-- MOVE the paper at once: 0B by one line, 13 by two, 1B by three, 8B to channel 1
abbrev pub move : PrinterState → Motion → Outcome PrinterState
move printer motion =
    let to = after_motion motion printer.at in
    if is_past printer to then checked printer intervention_required else unchanged (record printer { at = to }) (normal_end 0)

-- ---- the printer as a device

abbrev pub command_on : PrinterState → Option Command → List ℕ → Outcome PrinterState
command_on printer None given = unlisted printer
command_on printer (Some NoOperation) given = no_operation printer
command_on printer (Some Sense) given = sense printer
command_on printer (Some (Print motion)) given = print printer motion given
command_on printer (Some (Move motion)) given = move printer motion

abbrev pub act_by : Option Fault → PrinterState → ℕ → List ℕ → Outcome PrinterState
act_by None printer code given = command_on printer (command_of code) given
act_by (Some fault) printer code given = faulted printer fault

-- EVERY COMMAND uses up a number, and meets the fault of the script with that number, or else does what its code says
abbrev pub act : PrinterState → ℕ → List ℕ → Outcome PrinterState
act printer code given = act_by (fault_met printer.ordinals) (record printer { ordinals = counted printer.ordinals }) code given

-- THE MEANING OF A PRINTER: it has no tracks, and a seek leaves it as it is
abbrev pub printer : Meaning PrinterState
printer = record {
  kind = λ p. kind.Printer;
  cylinders = λ p. 0;
  heads = λ p. 0;
  flow = λ p code. flow_of (command_of code);
  prefix = λ p seek mask. p;
  act = act;
}
