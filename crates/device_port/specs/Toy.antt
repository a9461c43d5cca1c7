-- The toy device: one block of four bytes (profile; it serves the tests of the crates above).
use Rattle.std.specs.Prelude.{ℕ, ◌==◌, Bool, true, false, List, [], length, reverse, Option, Some, None}
use Rattle.device_port.specs.declared.kind.Kind.{Kind}
use Rattle.device_port.specs.declared.kind.Kind.TheVariants.{Disk, Tape, Printer}
use Rattle.device_port.specs.declared.kind.Flow.{Flow}
use Rattle.device_port.specs.declared.kind.Flow.TheVariants.{None as NoFlow, Out, Input, Back}
use Rattle.device_port.specs.declared.faults.Fault.{Fault}
use Rattle.device_port.specs.Answers.{normal_end}
use Rattle.device_port.specs.Common.{no_operation, unlisted, faulted}
use Rattle.device_port.specs.Faults.{Ordinals, fault_met, counted}
use Rattle.device_port.specs.Meaning.{Meaning, Outcome}
use Rattle.device_port.specs.Moves.{padded}

pub record ToyBlock : Type 0 where
  pub kind : Kind
  pub block : List ℕ
  pub ordinals : Ordinals

-- its commands
abbrev pub write_code : ℕ
write_code = 0x01

abbrev pub read_code : ℕ
read_code = 0x02

abbrev pub no_operation_code : ℕ
no_operation_code = 0x03

abbrev pub read_backward_code : ℕ
read_backward_code = 0x0C

-- 01 writes, 02 reads, 0C reads backward; no other command moves data
abbrev pub flow_by : (is_write is_read is_backward : Bool) → Flow
flow_by true is_read is_backward = Out
flow_by false true is_backward = Input
flow_by false false true = Back
flow_by false false false = NoFlow

abbrev pub toy_flow : ℕ → Flow
toy_flow command = flow_by (command == write_code) (command == read_code) (command == read_backward_code)

-- a command that meets no fault
abbrev pub command_by : (is_write is_read is_backward is_nothing : Bool) → ToyBlock → List ℕ → Outcome ToyBlock
command_by true is_read is_backward is_nothing d given =
    record { acted = normal_end 4; device = record d { block = padded 4 given }; bytes = [] }
command_by false true is_backward is_nothing d given =
    record { acted = normal_end (length d.block); device = d; bytes = d.block }
command_by false false true is_nothing d given =
    record { acted = normal_end (length d.block); device = d; bytes = reverse d.block }
command_by false false false true d given = no_operation d
command_by false false false false d given = unlisted d

abbrev pub toy_command : ToyBlock → ℕ → List ℕ → Outcome ToyBlock
toy_command d command given =
    command_by (command == write_code) (command == read_code) (command == read_backward_code)
    (command == no_operation_code) d given

-- a command meets its fault, or else acts
abbrev pub toy_act_by : Option Fault → ToyBlock → ℕ → List ℕ → Outcome ToyBlock
toy_act_by (Some fault) d command given = faulted d fault
toy_act_by None d command given = toy_command d command given

abbrev pub toy_act : ToyBlock → ℕ → List ℕ → Outcome ToyBlock
toy_act d command given = toy_act_by (fault_met d.ordinals) (record d { ordinals = counted d.ordinals }) command given

-- one track if it stands in for a disk
abbrev pub tracks_of : Kind → ℕ
tracks_of Disk = 1
tracks_of Tape = 0
tracks_of Printer = 0

abbrev pub toy : Meaning ToyBlock
toy = record {
  kind = λ d. d.kind;
  cylinders = λ d. tracks_of d.kind;
  heads = λ d. tracks_of d.kind;
  flow = λ d command. toy_flow command;
  prefix = λ d seek mask. d;
  act = toy_act;
}
