-- WHAT ONE LINE SAYS, as values that do not name the position of a word.
use Rattle.tape_unit.specs.Mount.{initial}
use Rattle.job_script.specs.declared.line.ScriptLine.{ScriptLine}
use Rattle.job_script.specs.declared.line.ScriptLine.TheVariants as lines
use Rattle.job_script.specs.declared.line.SetUpLine.{SetUpLine}
use Rattle.job_script.specs.declared.line.SetUpLine.TheVariants as set_up_lines
use Rattle.job_script.specs.declared.line.UnitLine.{UnitLine}
use Rattle.job_script.specs.Said.{LineSaid, SetUpLineSaid, UnitSaid, says_area, says_fault, says_item, says_opening, says_record}
use Rattle.job_script.specs.Said.{says_tasks, says_unit}
use Rattle.job_script.specs.Said.{says_command, says_excp, says_nothing, says_set_up}
use Rattle.job_script.specs.Lines.{new_unit}
use Rattle.job_script.specs.Views.{command_said, medium_said, opening_said, record_said}

-- what the line of a unit says
abbrev pub unit_line_said : UnitLine → UnitSaid
unit_line_said u = new_unit u.line u.isc (medium_said u.medium)

-- what a line of the set-up says
abbrev pub set_up_line_said : SetUpLine → SetUpLineSaid
set_up_line_said (set_up_lines.Tasks t) = says_tasks t.tasks
set_up_line_said (set_up_lines.Unit u) = says_unit u.number (unit_line_said u)
set_up_line_said (set_up_lines.Record n r) = says_record n (record_said r)
set_up_line_said (set_up_lines.Item n i) = says_item n (initial i)
set_up_line_said (set_up_lines.Fault n fault) = says_fault n fault
set_up_line_said (set_up_lines.Opening n o) = says_opening n (opening_said o)
set_up_line_said (set_up_lines.Area a) = says_area a.number (record { base = a.base; bytes = a.bytes.items })

-- what any line says
abbrev pub line_said : ScriptLine → LineSaid
line_said lines.Nothing = says_nothing
line_said (lines.SetUp l) = says_set_up (set_up_line_said l)
line_said (lines.Excp e) = says_excp e
line_said (lines.Command c) = says_command (command_said c)
