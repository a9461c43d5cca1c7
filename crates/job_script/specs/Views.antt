-- WHAT VALUES IN MEMORY SAY, as values that do not name the position of a word.
use Rattle.std.specs.Prelude.{map}
use Rattle.std.specs.Arc.{arc_value}
use Rattle.ckd_disk.specs.declared.mount.InitialRecord.{InitialRecord}
use Rattle.tape_unit.specs.Mount.{initial}
use Rattle.job_script.specs.declared.command.Action.{Action}
use Rattle.job_script.specs.declared.command.Action.TheVariants as actions
use Rattle.job_script.specs.declared.command.ScriptCommand.{ScriptCommand}
use Rattle.job_script.specs.declared.command.Excp.{Excp}
use Rattle.job_script.specs.declared.script.Script.{Script}
use Rattle.job_script.specs.declared.set_up.InitialMedium.{InitialMedium}
use Rattle.job_script.specs.declared.set_up.InitialMedium.TheVariants as media
use Rattle.job_script.specs.declared.set_up.Opening.{Opening}
use Rattle.job_script.specs.declared.set_up.SetUp.{SetUp}
use Rattle.job_script.specs.declared.set_up.UnitSetup.{UnitSetup}
use Rattle.job_script.specs.Said.{ActionSaid, CommandSaid, ExcpSaid, MediumSaid, OpeningSaid, RecordSaid, Said, SetUpSaid, UnitSaid}
use Rattle.job_script.specs.Said.{close, disk, excp, printer, purge, purge_task, reset, tape, wait}

-- what a record says
abbrev pub record_said : InitialRecord → RecordSaid
record_said r = record { cylinder = r.cylinder; head = r.head; number = r.number; key = r.key.items; content = r.content.items }

-- what a medium says
abbrev pub medium_said : InitialMedium → MediumSaid
medium_said (media.Disk geometry records) = disk geometry (map record_said records.items)
medium_said (media.Tape size items) = tape size (map initial items.items)
medium_said (media.Printer lines pages) = printer lines pages

-- what an open line says
abbrev pub opening_said : Opening → OpeningSaid
opening_said o = record { line = o.line; method = o.method; extents = o.extents.items }

-- the lines of records, items and faults serve messages, and are no part of what a script says
abbrev pub unit_said : UnitSetup → UnitSaid
unit_said u = record {
  line = u.line;
  isc = u.isc;
  medium = medium_said u.medium;
  faults = u.faults.items;
  openings = map opening_said u.openings.items;
}

-- what the set-up says
abbrev pub set_up_said : SetUp → SetUpSaid
set_up_said s = record { tasks = s.tasks; units = map unit_said s.units.items; areas = map arc_value s.areas.items }

-- what an excp line says
abbrev pub excp_said : Excp → ExcpSaid
excp_said e = record { dcb = e.dcb; iob = e.iob; area = arc_value e.area; show = e.show; len = e.len }

-- what an action says
abbrev pub action_said : Action → ActionSaid
action_said (actions.Excp e) = excp (excp_said e)
action_said (actions.Purge dcb mode) = purge dcb mode
action_said (actions.PurgeTask task mode) = purge_task task mode
action_said (actions.Close dcb) = close dcb
action_said (actions.Reset dcb) = reset dcb
action_said actions.Wait = wait

-- what a command says
abbrev pub command_said : ScriptCommand → CommandSaid
command_said c = record { line = c.line; task = c.task; action = action_said c.action }

-- what a whole script says
abbrev pub said : Script → Said
said s = record { set_up = set_up_said s.set_up; commands = map command_said s.commands.items }
