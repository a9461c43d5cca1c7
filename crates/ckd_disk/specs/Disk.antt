-- A disk: its tracks, the track under its heads, and what its commands mean.
use Rattle.std.specs.Prelude.{◌≡◌, ℕ, ◌+◌, ◌*◌, ◌<◌, List, [], ◌∷◌, ◌++◌, Option, Some, None, Bool, not, ◌&&◌, ◌||◌, nat_lt, length, take}
use Rattle.std.specs.Prelude.{slice_index_or, slice_set, if◌then◌else◌}
use Rattle.std.specs.List.{AllByRecursion}
use Rattle.io_images.specs.declared.seek.Seek.{Seek}
use Rattle.io_images.specs.Images.{seek_of}
use Rattle.io_images.specs.FileMask.{inhibits_seeks}
use Rattle.device_port.specs.declared.kind.Kind.TheVariants as kind
use Rattle.device_port.specs.declared.faults.Fault.{Fault}
use Rattle.device_port.specs.Answers.{normal_end}
use Rattle.device_port.specs.Faults.{Ordinals, fault_met, counted, failed}
use Rattle.device_port.specs.Sense.{command_reject, file_protected}
use Rattle.device_port.specs.Meaning.{Meaning, Outcome, fits_seek}
use Rattle.ckd_disk.specs.declared.access.Access.{Access}
use Rattle.ckd_disk.specs.declared.command.Command.{Command}
use Rattle.ckd_disk.specs.declared.command.Command.TheVariants.{Control, Read, Write}
use Rattle.ckd_disk.specs.declared.command.ControlCommand.{ControlCommand}
use Rattle.ckd_disk.specs.declared.command.ControlCommand.TheVariants as control
use Rattle.ckd_disk.specs.declared.command.Read.{Read as ReadCommand}
use Rattle.ckd_disk.specs.declared.command.Read.TheVariants as read
use Rattle.ckd_disk.specs.declared.command.Write.{Write as WriteCommand}
use Rattle.ckd_disk.specs.declared.command.Write.TheVariants as write
use Rattle.ckd_disk.specs.Record.{Record}
use Rattle.ckd_disk.specs.Track.{TrackState}
use Rattle.ckd_disk.specs.Access.{AccessState, access_of, at_index, unarmed, IsPlaced}
use Rattle.ckd_disk.specs.Command.{command_of, flow_of}
use Rattle.ckd_disk.specs.Commands.{Answer, Written, left, checked, no_operation, sense, set_file_mask, search_id, search_key, read_count}
use Rattle.ckd_disk.specs.Commands.{read_data, read_key_and_data, read_count_key_and_data, write_data, write_key_and_data}
use Rattle.ckd_disk.specs.Commands.{write_count_key_and_data}

-- A DISK: the tracks are in the order of their numbers, cylinder * heads + head; `track` is the number of the one under
-- the heads
pub record DiskState : Type 0 where
  pub cylinders : ℕ
  pub heads : ℕ
  pub tracks : List TrackState
  pub track : ℕ
  pub access : AccessState
  pub ordinals : Ordinals

-- the state of a disk, made of the parts that the code has
abbrev pub disk_state : ℕ → ℕ → List TrackState → ℕ → Access → Ordinals → DiskState
disk_state cylinders heads tracks track access ordinals =
    record { cylinders = cylinders; heads = heads; tracks = tracks; track = track; access = access_of access; ordinals = ordinals }

-- the track of a number that the disk does not have
abbrev pub no_track : TrackState
no_track = record { size = 0; records = [] }

-- the track with a number
abbrev pub track_of : List TrackState → ℕ → TrackState
track_of tracks number = slice_index_or tracks number no_track

-- the track under the heads
abbrev pub current_track : DiskState → TrackState
current_track disk = track_of disk.tracks disk.track

-- the number of a track, cylinder by cylinder
abbrev pub track_number : ℕ → ℕ → ℕ → ℕ
track_number heads cylinder head = cylinder * heads + head

-- the records of a track; none of one that the disk does not have
abbrev pub records_of : DiskState → ℕ → ℕ → List Record
records_of disk cylinder head =
    if nat_lt cylinder disk.cylinders && nat_lt head disk.heads
    then (track_of disk.tracks (track_number disk.heads cylinder head)).records
    else []

-- at the index point of a track, with a file mask
abbrev pub at_start : ℕ → AccessState
at_start mask = record { mask = mask; orientation = at_index; passes = 0; armed = unarmed }

-- THE PREFIX: a seek to a track, and a file mask (profile)
abbrev pub prefix : DiskState → Seek → ℕ → DiskState
prefix disk seek mask = record disk { track = track_number disk.heads seek.cylinder seek.head; access = at_start mask }

-- ---- commands

-- a command that leaves the medium as it is, and one that writes on the track under the heads
abbrev pub answered : DiskState → Answer → Outcome DiskState
answered disk answer = record { acted = answer.acted; device = record disk { access = answer.access }; bytes = answer.bytes }

-- the disk after a write on the current track
abbrev pub wrote : DiskState → Written → Outcome DiskState
wrote disk written = record {
  acted = written.acted;
  device = record disk { tracks = slice_set disk.tracks disk.track written.track; access = written.access };
  bytes = [];
}

-- 07 SEEK: BBCCHH, the middle of a seek address
abbrev pub seek_given : List ℕ → Seek
seek_given given = seek_of (0 ∷ (take 6 given ++ 0 ∷ []))

-- the disk has the track of a seek address
abbrev pub is_seek : DiskState → Seek → Bool
is_seek disk seek = fits_seek kind.Disk disk.cylinders disk.heads seek

-- 07 SEEK: moves the heads, if the file mask allows it and the disk has the track
abbrev pub seek : DiskState → List ℕ → Outcome DiskState
seek disk given =
    if inhibits_seeks disk.access.mask then answered disk (checked file_protected disk.access)
    else if nat_lt (length given) 6 || not (is_seek disk (seek_given given)) then answered disk (checked command_reject disk.access)
    else record { acted = normal_end 6; device = prefix disk (seek_given given) disk.access.mask; bytes = [] }

-- a command on the disk
abbrev pub control_on : DiskState → ControlCommand → Outcome DiskState
control_on disk control.NoOperation = answered disk (no_operation disk.access)
control_on disk control.SetFileMask = answered disk (set_file_mask disk.access)

-- the commands that give data to the program
abbrev pub read_on : DiskState → ReadCommand → Outcome DiskState
read_on disk read.Sense = answered disk (sense disk.access)
read_on disk read.Count = answered disk (read_count (current_track disk) disk.access)
read_on disk read.Data = answered disk (read_data (current_track disk) disk.access)
read_on disk read.KeyAndData = answered disk (read_key_and_data (current_track disk) disk.access)
read_on disk read.CountKeyAndData = answered disk (read_count_key_and_data (current_track disk) disk.access)

-- the commands that take data from the program
abbrev pub write_on : DiskState → WriteCommand → List ℕ → Outcome DiskState
write_on disk write.Seek given = seek disk given
write_on disk write.SearchId given = answered disk (search_id (current_track disk) disk.access given)
write_on disk write.SearchKey given = answered disk (search_key (current_track disk) disk.access given)
write_on disk write.Data given = wrote disk (write_data (current_track disk) disk.access given)
write_on disk write.KeyAndData given = wrote disk (write_key_and_data (current_track disk) disk.access given)
write_on disk write.CountKeyAndData given = wrote disk (write_count_key_and_data (current_track disk) disk.access given)

-- a code that is not listed is rejected
abbrev pub command_on : DiskState → Option Command → List ℕ → Outcome DiskState
command_on disk None given = answered disk (checked command_reject disk.access)
command_on disk (Some (Control command)) given = control_on disk command
command_on disk (Some (Read command)) given = read_on disk command
command_on disk (Some (Write command)) given = write_on disk command given

-- a command that meets a fault: the heads and the medium stay as they are (profile)
abbrev pub faulted : DiskState → Fault → Outcome DiskState
faulted disk fault =
    record { acted = failed fault; device = record disk { access = left disk.access disk.access.orientation unarmed }; bytes = [] }

-- a command, which meets this fault or none
abbrev pub act_by : Option Fault → DiskState → ℕ → List ℕ → Outcome DiskState
act_by None disk code given = command_on disk (command_of code) given
act_by (Some fault) disk code given = faulted disk fault

-- EVERY COMMAND uses up a number, and meets the fault of the script with that number, or else does what its code says
abbrev pub act : DiskState → ℕ → List ℕ → Outcome DiskState
act disk code given = act_by (fault_met disk.ordinals) (record disk { ordinals = counted disk.ordinals }) code given

-- THE MEANING OF A DISK
abbrev pub disk : Meaning DiskState
disk = record {
  kind = λ d. kind.Disk;
  cylinders = λ d. d.cylinders;
  heads = λ d. d.heads;
  flow = λ d code. flow_of (command_of code);
  prefix = prefix;
  act = act;
}

-- what the code keeps true of its tracks and its spots
pub record IsDisk (disk : DiskState) (access : Access) : Type 0 where
  pub all : length disk.tracks ≡ disk.cylinders * disk.heads
  pub here : disk.track < length disk.tracks
  pub placed : IsPlaced access (current_track disk)
  pub filled : AllByRecursion (λ t. 0 < length t.records) disk.tracks
