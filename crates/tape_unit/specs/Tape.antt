-- A tape: its reel, the position of the tape, and what its commands mean (magnetic tape units, in the profile's choice).
-- Places count items from the load point.
use Rattle.std.specs.Prelude.{ℕ, ◌+◌, ◌-◌, List, [], ◌∷◌, Option, Some, None, length, take, drop, reverse, if◌then◌else◌}
use Rattle.std.specs.List.{position}
use Rattle.device_port.specs.declared.answer.Acted.{Acted}
use Rattle.device_port.specs.declared.faults.Fault.{Fault}
use Rattle.device_port.specs.declared.kind.Kind.TheVariants as kind
use Rattle.device_port.specs.Answers.{normal_end, unit_exception}
use Rattle.device_port.specs.Common.{unchanged, no_operation, sense, checked, unlisted, faulted}
use Rattle.device_port.specs.Faults.{Ordinals, fault_met, counted}
use Rattle.device_port.specs.Meaning.{Meaning, Outcome}
use Rattle.device_port.specs.Sense.{command_reject, equipment_check}
use Rattle.tape_unit.specs.declared.command.Command.{Command}
use Rattle.tape_unit.specs.declared.command.Command.TheVariants.{Control, Sense, Read, ReadBackward, Write}
use Rattle.tape_unit.specs.declared.command.ControlCommand.{ControlCommand}
use Rattle.tape_unit.specs.declared.command.ControlCommand.TheVariants as control
use Rattle.tape_unit.specs.Item.{Item, tape_mark, block, is_mark, content_of}
use Rattle.tape_unit.specs.Reel.{ReelState, has_room_at, with_item_at}
use Rattle.tape_unit.specs.Command.{command_of, flow_of}

-- A TAPE: `place` items lie between the load point and the head
pub record TapeState : Type 0 where
  pub reel : ReelState
  pub place : ℕ
  pub ordinals : Ordinals

-- the tape with its head before the item with this index
abbrev pub moved_to : TapeState → ℕ → TapeState
moved_to tape place = record tape { place = place }

-- the items that go by when the tape moves forward, and those that go by when it moves backward, each in the
-- order in which they do
abbrev pub ahead : TapeState → List Item
ahead tape = drop tape.place tape.reel.items

-- the items that are before the head, the nearest first
abbrev pub items_after : TapeState → List Item
items_after tape = reverse (take tape.place tape.reel.items)

-- how a command ends that reads an item, and one that spaces over it: a tape mark is unit exception
abbrev pub read_ended : Item → Acted
read_ended tape_mark = unit_exception 0
read_ended (block bytes) = normal_end (length bytes)

-- how spacing over an item ends: at a tape mark with unit exception
abbrev pub spaced_ended : Item → Acted
spaced_ended tape_mark = unit_exception 0
spaced_ended (block bytes) = normal_end 0

-- ---- commands on the next item. Behind the last item a forward move is equipment check; at the load point a
-- backward move is command reject

-- 02 READ
abbrev pub read_first : TapeState → List Item → Outcome TapeState
read_first tape [] = checked tape equipment_check
read_first tape (x ∷ rest) = record { acted = read_ended x; device = moved_to tape (tape.place + 1); bytes = content_of x }

-- 02 READ: gives the block ahead, and moves after it
abbrev pub read : TapeState → Outcome TapeState
read tape = read_first tape (ahead tape)

-- 0C READ BACKWARD: the last byte first
abbrev pub read_backward_first : TapeState → List Item → Outcome TapeState
read_backward_first tape [] = checked tape command_reject
read_backward_first tape (x ∷ rest) =
    record { acted = read_ended x; device = moved_to tape (tape.place - 1); bytes = reverse (content_of x) }

-- 0C READ BACKWARD: gives the block before the head, and moves before it
abbrev pub read_backward : TapeState → Outcome TapeState
read_backward tape = read_backward_first tape (items_after tape)

-- 37 FORWARD SPACE BLOCK
abbrev pub forward_space_first : TapeState → List Item → Outcome TapeState
forward_space_first tape [] = checked tape equipment_check
forward_space_first tape (x ∷ rest) = unchanged (moved_to tape (tape.place + 1)) (spaced_ended x)

-- 37 FORWARD SPACE BLOCK
abbrev pub forward_space_block : TapeState → Outcome TapeState
forward_space_block tape = forward_space_first tape (ahead tape)

-- 27 BACKSPACE BLOCK
abbrev pub backspace_first : TapeState → List Item → Outcome TapeState
backspace_first tape [] = checked tape command_reject
backspace_first tape (x ∷ rest) = unchanged (moved_to tape (tape.place - 1)) (spaced_ended x)

-- 27 BACKSPACE BLOCK
abbrev pub backspace_block : TapeState → Outcome TapeState
backspace_block tape = backspace_first tape (items_after tape)

-- ---- commands that move over a file: over the blocks up to a tape mark, and over the mark

-- 3F FORWARD SPACE FILE: without a mark the tape stops after the last item
abbrev pub forward_space_over : TapeState → Option ℕ → Outcome TapeState
forward_space_over tape None = checked (moved_to tape (length tape.reel.items)) equipment_check
forward_space_over tape (Some blocks) = unchanged (moved_to tape (tape.place + (blocks + 1))) (normal_end 0)

-- 3F FORWARD SPACE FILE: moves after the next tape mark
abbrev pub forward_space_file : TapeState → Outcome TapeState
forward_space_file tape = forward_space_over tape (position is_mark (ahead tape))

-- 2F BACKSPACE FILE: without a mark the tape stops at the load point
abbrev pub backspace_over : TapeState → Option ℕ → Outcome TapeState
backspace_over tape None = checked (moved_to tape 0) command_reject
backspace_over tape (Some blocks) = unchanged (moved_to tape (tape.place - (blocks + 1))) (normal_end 0)

-- 2F BACKSPACE FILE: moves before the last tape mark
abbrev pub backspace_file : TapeState → Outcome TapeState
backspace_file tape = backspace_over tape (position is_mark (items_after tape))

-- 07 REWIND
abbrev pub rewind : TapeState → Outcome TapeState
rewind tape = unchanged (moved_to tape 0) (normal_end 0)

-- ---- writes: what was at the position and after it is erased

-- writes an item at the head, if it fits the reel
abbrev pub put : TapeState → Item → Acted → Outcome TapeState
put tape x ended =
    if has_room_at tape.reel tape.place (length (content_of x))
    then unchanged (record tape { reel = with_item_at tape.reel tape.place x; place = tape.place + 1 }) ended
    else checked tape equipment_check

-- 01 WRITE: a block of at most 65,535 bytes
abbrev pub write : TapeState → List ℕ → Outcome TapeState
write tape given =
    let bytes = take 65_535 given in
    put tape (block bytes) (normal_end (length bytes))

-- 1F WRITE TAPE MARK
abbrev pub write_tape_mark : TapeState → Outcome TapeState
write_tape_mark tape = put tape tape_mark (normal_end 0)

-- ---- the tape as a device

-- the commands that move no data
abbrev pub control_on : TapeState → ControlCommand → Outcome TapeState
control_on tape control.NoOperation = no_operation tape
control_on tape control.Rewind = rewind tape
control_on tape control.WriteTapeMark = write_tape_mark tape
control_on tape control.BackspaceBlock = backspace_block tape
control_on tape control.BackspaceFile = backspace_file tape
control_on tape control.ForwardSpaceBlock = forward_space_block tape
control_on tape control.ForwardSpaceFile = forward_space_file tape

-- a command, or a code that is no command of a tape
abbrev pub command_on : TapeState → Option Command → List ℕ → Outcome TapeState
command_on tape None given = unlisted tape
command_on tape (Some (Control command)) given = control_on tape command
command_on tape (Some Sense) given = sense tape
command_on tape (Some Read) given = read tape
command_on tape (Some ReadBackward) given = read_backward tape
command_on tape (Some Write) given = write tape given

-- a command, which meets this fault or none
abbrev pub act_by : Option Fault → TapeState → ℕ → List ℕ → Outcome TapeState
act_by None tape code given = command_on tape (command_of code) given
act_by (Some fault) tape code given = faulted tape fault

-- EVERY COMMAND uses up a number, and meets the fault of the script with that number, or else does what its code says
abbrev pub act : TapeState → ℕ → List ℕ → Outcome TapeState
act tape code given = act_by (fault_met tape.ordinals) (record tape { ordinals = counted tape.ordinals }) code given

-- THE MEANING OF A TAPE: it has no tracks, and a seek leaves it as it is
abbrev pub tape : Meaning TapeState
tape = record {
  kind = λ t. kind.Tape;
  cylinders = λ t. 0;
  heads = λ t. 0;
  flow = λ t code. flow_of (command_of code);
  prefix = λ t seek mask. t;
  act = act;
}
