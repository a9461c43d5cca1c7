-- The disk keeps the laws of a device.
use Rattle.std.specs.Prelude.{◌≡◌, ℕ, Bool, true, false, List, ◌++◌, Option, Some, None, nat_lt, not, ◌||◌, length, refl, if◌then◌else◌}
use Rattle.io_images.specs.FileMask.{inhibits_seeks}
use Rattle.device_port.specs.declared.faults.Fault.{Fault}
use Rattle.device_port.specs.Answers.{normal_end, unit_exception}
use Rattle.device_port.specs.Faults.{fault_met, counted}
use Rattle.device_port.specs.Meaning.{Outcome, Lawful, GivesWhatItWants}
use Rattle.device_port.specs.MeaningLaws.{gives_nothing}
use Rattle.ckd_disk.specs.declared.command.Command.{Command}
use Rattle.ckd_disk.specs.declared.command.Command.TheVariants.{Control, Read, Write}
use Rattle.ckd_disk.specs.declared.command.ControlCommand.TheVariants as control
use Rattle.ckd_disk.specs.declared.command.Read.TheVariants as read
use Rattle.ckd_disk.specs.declared.command.Write.TheVariants as write
use Rattle.ckd_disk.specs.Record.{Record, packed}
use Rattle.ckd_disk.specs.Track.{TrackState}
use Rattle.ckd_disk.specs.Access.{AccessState}
use Rattle.ckd_disk.specs.Walk.{Reached, next_record, key_record, content_record}
use Rattle.ckd_disk.specs.Command.{command_of, flow_of}
use Rattle.ckd_disk.specs.Commands.{read_count_at, read_part}
use Rattle.ckd_disk.specs.Disk.{DiskState, disk, current_track, act_by, act, command_on, is_seek, seek_given}

-- a command keeps the geometry
record Keeps (before after : DiskState) : Type 0 where
  cylinders : after.cylinders ≡ before.cylinders
  heads : after.heads ≡ before.heads

kept_by : (first second : Bool) (d : DiskState) (x y z : Outcome DiskState) → Keeps d x.device → Keeps d y.device → Keeps d z.device →
    Keeps d (if first then x else if second then y else z).device
kept_by true second d x y z a b c = a
kept_by false true d x y z a b c = b
kept_by false false d x y z a b c = c

command_keeps : (d : DiskState) (command : Option Command) (given : List ℕ) → Keeps d (command_on d command given).device
command_keeps d None given = record { cylinders = refl; heads = refl }
command_keeps d (Some (Control control.NoOperation)) given = record { cylinders = refl; heads = refl }
command_keeps d (Some (Control control.SetFileMask)) given = record { cylinders = refl; heads = refl }
command_keeps d (Some (Read read.Sense)) given = record { cylinders = refl; heads = refl }
command_keeps d (Some (Read read.Count)) given = record { cylinders = refl; heads = refl }
command_keeps d (Some (Read read.Data)) given = record { cylinders = refl; heads = refl }
command_keeps d (Some (Read read.KeyAndData)) given = record { cylinders = refl; heads = refl }
command_keeps d (Some (Read read.CountKeyAndData)) given = record { cylinders = refl; heads = refl }
command_keeps d (Some (Write write.Seek)) given =
    kept_by (inhibits_seeks d.access.mask) (nat_lt (length given) 6 || not (is_seek d (seek_given given))) d _ _ _
    (record { cylinders = refl; heads = refl }) (record { cylinders = refl; heads = refl }) (record { cylinders = refl; heads = refl })
command_keeps d (Some (Write write.SearchId)) given = record { cylinders = refl; heads = refl }
command_keeps d (Some (Write write.SearchKey)) given = record { cylinders = refl; heads = refl }
command_keeps d (Some (Write write.Data)) given = record { cylinders = refl; heads = refl }
command_keeps d (Some (Write write.KeyAndData)) given = record { cylinders = refl; heads = refl }
command_keeps d (Some (Write write.CountKeyAndData)) given = record { cylinders = refl; heads = refl }

keeps_by : (fault : Option Fault) (d : DiskState) (code : ℕ) (given : List ℕ) → Keeps d (act_by fault d code given).device
keeps_by None d code given = command_keeps d (command_of code) given
keeps_by (Some fault) d code given = record { cylinders = refl; heads = refl }

act_keeps : (d : DiskState) (code : ℕ) (given : List ℕ) → Keeps d (act d code given).device
act_keeps d code given =
    let k = keeps_by (fault_met d.ordinals) (record d { ordinals = counted d.ordinals }) code given in
    record { cylinders = k.cylinders; heads = k.heads }

-- a read gives the bytes that it wants
want_by : (empty : Bool) (n : ℕ) → n ≡ (if empty then unit_exception n else normal_end n).want
want_by true n = refl
want_by false n = refl

part_gives : (part : Record → List ℕ) (t : TrackState) (a : AccessState) (reached : Option Reached) →
    length (read_part part t a reached).bytes ≡ (read_part part t a reached).acted.want
part_gives part t a None = refl
part_gives part t a (Some reached) = want_by _ _

count_gives : (t : TrackState) (a : AccessState) (reached : Option Reached) →
    length (read_count_at t a reached).bytes ≡ (read_count_at t a reached).acted.want
count_gives t a None = refl
count_gives t a (Some reached) = refl

command_gives : (d : DiskState) (command : Option Command) (given : List ℕ) →
    GivesWhatItWants (flow_of command) (command_on d command given)
command_gives d None given = refl
command_gives d (Some (Control control.NoOperation)) given = refl
command_gives d (Some (Control control.SetFileMask)) given = refl
command_gives d (Some (Read read.Sense)) given = refl
command_gives d (Some (Read read.Count)) given = count_gives (current_track d) d.access
    (next_record d.access.orientation (length (current_track d).records))
command_gives d (Some (Read read.Data)) given = part_gives (λ r. r.content) (current_track d) d.access
    (content_record d.access.orientation (length (current_track d).records))
command_gives d (Some (Read read.KeyAndData)) given = part_gives (λ r. r.key ++ r.content) (current_track d) d.access
    (key_record d.access.orientation (length (current_track d).records))
command_gives d (Some (Read read.CountKeyAndData)) given = part_gives packed (current_track d) d.access
    (next_record d.access.orientation (length (current_track d).records))
command_gives d (Some (Write command)) given = tt

gives_by : (fault : Option Fault) (d : DiskState) (code : ℕ) (given : List ℕ) →
    GivesWhatItWants (flow_of (command_of code)) (act_by fault d code given)
gives_by None d code given = command_gives d (command_of code) given
gives_by (Some fault) d code given = gives_nothing (flow_of (command_of code)) (act_by (Some fault) d code given) refl refl

-- THE LAWS
pub disk_lawful : Lawful disk
disk_lawful = record {
  kind_after_act = λ d code given. refl;
  cylinders_after_act = λ d code given. (act_keeps d code given).cylinders;
  heads_after_act = λ d code given. (act_keeps d code given).heads;
  kind_after_prefix = λ d seek mask. refl;
  cylinders_after_prefix = λ d seek mask. refl;
  heads_after_prefix = λ d seek mask. refl;
  cylinders_off_disk = λ d off. absurd (off refl);
  heads_off_disk = λ d off. absurd (off refl);
  prefix_off_disk = λ d seek mask off. absurd (off refl);
  gives = λ d code given. gives_by (fault_met d.ordinals) (record d { ordinals = counted d.ordinals }) code given;
}
