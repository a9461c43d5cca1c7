-- The commands of a tape by their codes (magnetic tape units; which of them there are is the profile's choice).
use Rattle.std.specs.Prelude.{ℕ, Option, Some, None, ◌==◌, if◌then◌else◌}
use Rattle.device_port.specs.declared.kind.Flow.{Flow}
use Rattle.device_port.specs.declared.kind.Flow.TheVariants as flow
use Rattle.tape_unit.specs.declared.command.Command.{Command}
use Rattle.tape_unit.specs.declared.command.Command.TheVariants.{Control, Sense, Read, ReadBackward, Write}
use Rattle.tape_unit.specs.declared.command.ControlCommand.TheVariants as control

-- the command with a code; a code that is not listed is rejected
abbrev pub command_of : ℕ → Option Command
command_of code =
    if code == 0x01 then Some Write
    else if code == 0x02 then Some Read
    else if code == 0x03 then Some (Control control.NoOperation)
    else if code == 0x04 then Some Sense
    else if code == 0x07 then Some (Control control.Rewind)
    else if code == 0x0C then Some ReadBackward
    else if code == 0x1F then Some (Control control.WriteTapeMark)
    else if code == 0x27 then Some (Control control.BackspaceBlock)
    else if code == 0x2F then Some (Control control.BackspaceFile)
    else if code == 0x37 then Some (Control control.ForwardSpaceBlock)
    else if code == 0x3F then Some (Control control.ForwardSpaceFile)
    else None

-- the direction of its data
abbrev pub flow_of : Option Command → Flow
flow_of None = flow.None
flow_of (Some (Control command)) = flow.None
flow_of (Some Sense) = flow.Input
flow_of (Some Read) = flow.Input
flow_of (Some ReadBackward) = flow.Back
flow_of (Some Write) = flow.Out
