-- The commands of a disk by their codes (count-key-data devices; which of them there are is the profile's choice).
use Rattle.std.specs.Prelude.{ℕ, Option, Some, None, ◌==◌, if◌then◌else◌}
use Rattle.device_port.specs.declared.kind.Flow.{Flow}
use Rattle.device_port.specs.declared.kind.Flow.TheVariants as flow
use Rattle.ckd_disk.specs.declared.command.Command.{Command}
use Rattle.ckd_disk.specs.declared.command.Command.TheVariants.{Control, Read, Write}
use Rattle.ckd_disk.specs.declared.command.ControlCommand.TheVariants as control
use Rattle.ckd_disk.specs.declared.command.Read.TheVariants as read
use Rattle.ckd_disk.specs.declared.command.Write.TheVariants as write

-- the command with a code; a code that is not listed is rejected
abbrev pub command_of : ℕ → Option Command
command_of code =
    if code == 0x03 then Some (Control control.NoOperation)
    else if code == 0x04 then Some (Read read.Sense)
    else if code == 0x05 then Some (Write write.Data)
    else if code == 0x06 then Some (Read read.Data)
    else if code == 0x07 then Some (Write write.Seek)
    else if code == 0x0D then Some (Write write.KeyAndData)
    else if code == 0x0E then Some (Read read.KeyAndData)
    else if code == 0x12 then Some (Read read.Count)
    else if code == 0x1D then Some (Write write.CountKeyAndData)
    else if code == 0x1E then Some (Read read.CountKeyAndData)
    else if code == 0x1F then Some (Control control.SetFileMask)
    else if code == 0x29 then Some (Write write.SearchKey)
    else if code == 0x31 then Some (Write write.SearchId)
    else None

-- the direction of its data
abbrev pub flow_of : Option Command → Flow
flow_of None = flow.None
flow_of (Some (Control command)) = flow.None
flow_of (Some (Read command)) = flow.Input
flow_of (Some (Write command)) = flow.Out
