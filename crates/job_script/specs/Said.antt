-- WHAT A SCRIPT SAYS: values, without where they lie in memory (profile).
use Rattle.std.specs.Prelude.{ℕ, List, []}
use Rattle.io_area.specs.Storage.{Storage}
use Rattle.io_images.specs.declared.extent.Extent.{Extent}
use Rattle.device_port.specs.declared.faults.Fault.{Fault as DeviceFault}
use Rattle.ckd_disk.specs.declared.mount.Geometry.{Geometry}
use Rattle.tape_unit.specs.Item.{Item}
use Rattle.unit_book.specs.declared.dcb.ProcessingMethod.{ProcessingMethod}
use Rattle.unit_book.specs.declared.entry.Mode.{Mode}
use Rattle.job_script.specs.declared.command.DcbName.{DcbName}
use Rattle.job_script.specs.declared.line.ExcpLine.{ExcpLine}

-- a record of a disk
pub record RecordSaid : Type 0 where
  pub cylinder : ℕ
  pub head : ℕ
  pub number : ℕ
  pub key : List ℕ
  pub content : List ℕ

-- a medium with its content: a disk, a tape of this many bytes, or a printer of lines and pages
pub data MediumSaid : Type 0 where
  disk : Geometry → List RecordSaid → MediumSaid
  tape : ℕ → List Item → MediumSaid
  printer : ℕ → ℕ → MediumSaid

-- a DCB
pub record OpeningSaid : Type 0 where
  pub line : ℕ
  pub method : ProcessingMethod
  pub extents : List Extent

-- a unit
pub record UnitSaid : Type 0 where
  pub line : ℕ
  pub isc : ℕ
  pub medium : MediumSaid
  pub faults : List DeviceFault
  pub openings : List OpeningSaid

-- what set-up lines declare: the number of tasks, 0 if no line says it, and units and areas in the order of their numbers
pub record SetUpSaid : Type 0 where
  pub tasks : ℕ
  pub units : List UnitSaid
  pub areas : List Storage

-- an EXCP on a copy of an area
pub record ExcpSaid : Type 0 where
  pub dcb : DcbName
  pub iob : ℕ
  pub area : Storage
  pub show : ℕ
  pub len : ℕ

-- what a task does
pub data ActionSaid : Type 0 where
  excp : ExcpSaid → ActionSaid
  purge : DcbName → Mode → ActionSaid
  purge_task : ℕ → Mode → ActionSaid
  close : DcbName → ActionSaid
  reset : DcbName → ActionSaid
  wait : ActionSaid

-- a command, its line, and the task that gives it
pub record CommandSaid : Type 0 where
  pub line : ℕ
  pub task : ℕ
  pub action : ActionSaid

-- a script so far
pub record Said : Type 0 where
  pub set_up : SetUpSaid
  pub commands : List CommandSaid

-- no line was read yet
abbrev pub nothing : Said
nothing = record { set_up = record { tasks = 0; units = []; areas = [] }; commands = [] }

-- what one set-up line says; the number before a record, an item, a fault or a DCB is that of its unit
pub data SetUpLineSaid : Type 0 where
  says_tasks : ℕ → SetUpLineSaid
  says_unit : ℕ → UnitSaid → SetUpLineSaid
  says_record : ℕ → RecordSaid → SetUpLineSaid
  says_item : ℕ → Item → SetUpLineSaid
  says_fault : ℕ → DeviceFault → SetUpLineSaid
  says_opening : ℕ → OpeningSaid → SetUpLineSaid
  says_area : ℕ → Storage → SetUpLineSaid

-- what one line says; an EXCP names its area by number
pub data LineSaid : Type 0 where
  says_nothing : LineSaid
  says_set_up : SetUpLineSaid → LineSaid
  says_excp : ExcpLine → LineSaid
  says_command : CommandSaid → LineSaid
