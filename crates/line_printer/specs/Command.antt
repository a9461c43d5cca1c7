-- The commands of a line printer by their codes (line printers; which of them there are is the profile's choice).
use Rattle.std.specs.Prelude.{ℕ, Option, Some, None, ◌==◌, if◌then◌else◌}
use Rattle.device_port.specs.declared.kind.Flow.{Flow}
use Rattle.device_port.specs.declared.kind.Flow.TheVariants as flow
use Rattle.line_printer.specs.declared.command.Command.{Command}
use Rattle.line_printer.specs.declared.command.Command.TheVariants.{NoOperation, Sense, Print, Move}
use Rattle.line_printer.specs.declared.paper.Motion.TheVariants as motion

-- the command with a code: 01, 09, 11, 19 and 89 print a line and then move the paper, 0B, 13, 1B and 8B move it
-- at once; a code that is not listed is rejected
abbrev pub command_of : ℕ → Option Command
command_of code =
    if code == 0x01 then Some (Print motion.Suppress)
    else if code == 0x03 then Some NoOperation
    else if code == 0x04 then Some Sense
    else if code == 0x09 then Some (Print motion.SpaceOne)
    else if code == 0x0B then Some (Move motion.SpaceOne)
    else if code == 0x11 then Some (Print motion.SpaceTwo)
    else if code == 0x13 then Some (Move motion.SpaceTwo)
    else if code == 0x19 then Some (Print motion.SpaceThree)
    else if code == 0x1B then Some (Move motion.SpaceThree)
    else if code == 0x89 then Some (Print motion.SkipToChannelOne)
    else if code == 0x8B then Some (Move motion.SkipToChannelOne)
    else None

-- the direction of its data
abbrev pub flow_of : Option Command → Flow
flow_of None = flow.None
flow_of (Some NoOperation) = flow.None
flow_of (Some Sense) = flow.Input
flow_of (Some (Print motion)) = flow.Out
flow_of (Some (Move motion)) = flow.None
