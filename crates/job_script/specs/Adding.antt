-- A LINE AFTER OTHER LINES: what it adds to a script, or its first fault, Order, Name, Kind or Area (profile).
use Rattle.std.specs.Prelude.{ℕ, zero, suc, ◌+◌, ◌%◌, ◌==◌, ◌&&◌, nat_lt, nat_le, if◌then◌else◌}
use Rattle.std.specs.Prelude.{List, [], ◌∷◌, ◌++◌, length, slice_set, Result, Ok, Err}
use Rattle.io_area.specs.Storage.{Storage}
use Rattle.device_port.specs.declared.faults.Fault.{Fault as DeviceFault}
use Rattle.tape_unit.specs.Item.{Item}
use Rattle.job_script.specs.declared.command.DcbName.{DcbName}
use Rattle.job_script.specs.declared.fault.FaultName.{FaultName}
use Rattle.job_script.specs.declared.fault.FaultName.TheVariants as names
use Rattle.job_script.specs.declared.line.ExcpLine.{ExcpLine}
use Rattle.job_script.specs.Steps.{◌>>=◌}
use Rattle.job_script.specs.Said.{ActionSaid, CommandSaid, ExcpSaid, LineSaid, MediumSaid, OpeningSaid, RecordSaid}
use Rattle.job_script.specs.Said.{Said, SetUpLineSaid, SetUpSaid, UnitSaid}
use Rattle.job_script.specs.Said.{close, disk, excp, printer, purge, purge_task, reset, tape, wait}
use Rattle.job_script.specs.Said.{says_area, says_fault, says_item, says_opening, says_record, says_tasks, says_unit}
use Rattle.job_script.specs.Said.{says_command, says_excp, says_nothing, says_set_up}

-- a set-up line comes before the first command
abbrev pub is_early : Said → Result (Unit {0}) FaultName
is_early s = if length s.commands == 0 then Ok tt else Err names.Order

-- a number is the next one after this many
abbrev pub is_next : ℕ → ℕ → Result (Unit {0}) FaultName
is_next n count = if n == count then Ok tt else Err names.Order

-- what has this number; numbers count from 0
unfoldable pub numbered : {X : Type 0} → ℕ → List X → Result X FaultName
numbered n [] = Err names.Name
numbered zero (x ∷ xs) = Ok x
numbered (suc n) (x ∷ xs) = numbered n xs

-- a task with this number is declared
abbrev pub is_task : ℕ → SetUpSaid → Result (Unit {0}) FaultName
is_task task s = if nat_lt task s.tasks then Ok tt else Err names.Name

-- the unit of a DCB has this many DCBs; they count from 1
unfoldable pub is_dcb : DcbName → SetUpSaid → Result (Unit {0}) FaultName
is_dcb dcb s = do
  unit ← numbered dcb.unit s.units
  if nat_le dcb.number (length unit.openings) then Ok tt else Err names.Name

-- storage is an area: aligned to a doubleword, not too long, below the top of storage
abbrev pub is_area : Storage → Result (Unit {0}) FaultName
is_area area =
    if (area.base % 8 == 0) && nat_le (length area.bytes) 8192 && nat_le (area.base + length area.bytes) 16777216
    then Ok tt
    else Err names.Area

-- the number of tasks is declared once
unfoldable pub add_tasks : ℕ → SetUpSaid → Result SetUpSaid FaultName
add_tasks tasks s = if s.tasks == 0 then Ok (record s { tasks = tasks }) else Err names.Order

-- a unit has the next number
unfoldable pub add_unit : ℕ → UnitSaid → SetUpSaid → Result SetUpSaid FaultName
add_unit n unit s = do
  _ ← is_next n (length s.units)
  Ok (record s { units = s.units ++ unit ∷ [] })

-- the unit with this number changes
unfoldable pub change_unit : ℕ → (UnitSaid → Result UnitSaid FaultName) → SetUpSaid → Result SetUpSaid FaultName
change_unit n change s = do
  old ← numbered n s.units
  new ← change old
  Ok (record s { units = slice_set s.units n new })

-- adds a record to a disk, after the records before it
abbrev pub put_record : RecordSaid → MediumSaid → Result MediumSaid FaultName
put_record r (disk geometry records) = Ok (disk geometry (records ++ r ∷ []))
put_record r (tape size items) = Err names.Kind
put_record r (printer lines pages) = Err names.Kind

-- adds a record to the disk of a unit
abbrev pub add_record : RecordSaid → UnitSaid → Result UnitSaid FaultName
add_record r unit = put_record r unit.medium >>= λ medium. Ok (record unit { medium = medium })

-- adds an item to a tape, after the items before it
abbrev pub put_item : Item → MediumSaid → Result MediumSaid FaultName
put_item i (disk geometry records) = Err names.Kind
put_item i (tape size items) = Ok (tape size (items ++ i ∷ []))
put_item i (printer lines pages) = Err names.Kind

-- adds an item to the tape of a unit
abbrev pub add_item : Item → UnitSaid → Result UnitSaid FaultName
add_item i unit = put_item i unit.medium >>= λ medium. Ok (record unit { medium = medium })

-- a unit meets one more fault
abbrev pub add_fault : DeviceFault → UnitSaid → Result UnitSaid FaultName
add_fault fault unit = Ok (record unit { faults = unit.faults ++ fault ∷ [] })

-- a DCB has the next number of its unit
abbrev pub add_opening : OpeningSaid → UnitSaid → Result UnitSaid FaultName
add_opening opening unit = Ok (record unit { openings = unit.openings ++ opening ∷ [] })

-- an area has the next number
unfoldable pub add_area : ℕ → Storage → SetUpSaid → Result SetUpSaid FaultName
add_area n area s = do
  _ ← is_next n (length s.areas)
  _ ← is_area area
  Ok (record s { areas = s.areas ++ area ∷ [] })

-- what a set-up line says is declared
unfoldable pub add_set_up : SetUpLineSaid → SetUpSaid → Result SetUpSaid FaultName
add_set_up (says_tasks tasks) s = add_tasks tasks s
add_set_up (says_unit n unit) s = add_unit n unit s
add_set_up (says_record n r) s = change_unit n (add_record r) s
add_set_up (says_item n i) s = change_unit n (add_item i) s
add_set_up (says_fault n fault) s = change_unit n (add_fault fault) s
add_set_up (says_opening n opening) s = change_unit n (add_opening opening) s
add_set_up (says_area n area) s = add_area n area s

-- the DCB or the other task that an action names is declared
abbrev pub names_action : ActionSaid → SetUpSaid → Result (Unit {0}) FaultName
names_action (excp e) s = is_dcb e.dcb s
names_action (purge dcb mode) s = is_dcb dcb s
names_action (purge_task task mode) s = is_task task s
names_action (close dcb) s = is_dcb dcb s
names_action (reset dcb) s = is_dcb dcb s
names_action wait s = Ok tt

-- all that a command names is declared
unfoldable pub names_command : CommandSaid → SetUpSaid → Result (Unit {0}) FaultName
names_command command s = do
  _ ← is_task command.task s
  names_action command.action s

-- an EXCP on a copy of this area
abbrev pub excp_on : ExcpLine → Storage → ExcpSaid
excp_on e area = record { dcb = e.dcb; iob = e.iob; area = area; show = e.show; len = e.len }

-- an EXCP on the area with the number that the line names
abbrev pub excp_over : ExcpLine → SetUpSaid → Result ExcpSaid FaultName
excp_over e s = numbered e.area s.areas >>= λ area. Ok (excp_on e area)

-- the command of an EXCP
unfoldable pub excp_command : ExcpLine → SetUpSaid → Result CommandSaid FaultName
excp_command e s = do
  over ← excp_over e s
  Ok (record { line = e.line; task = e.task; action = excp over })

-- a command comes after the others
unfoldable pub add_command : CommandSaid → Said → Result Said FaultName
add_command command s = do
  _ ← names_command command s.set_up
  Ok (record s { commands = s.commands ++ command ∷ [] })

-- the script with what one line says
unfoldable pub add_line : LineSaid → Said → Result Said FaultName
add_line says_nothing s = Ok s
add_line (says_set_up line) s = do
  _ ← is_early s
  set_up ← add_set_up line s.set_up
  Ok (record s { set_up = set_up })
add_line (says_excp e) s = excp_command e s.set_up >>= λ command. add_command command s
add_line (says_command command) s = add_command command s
