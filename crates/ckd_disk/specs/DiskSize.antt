-- The size of a disk never changes: its tracks keep their bytes, and its fault script the number of its faults.
use Rattle.std.specs.Prelude.{◌≡◌, ℕ, zero, suc, ◌+◌, Bool, true, false, List, [], ◌∷◌, Option, Some, None, nat_lt, not, ◌||◌, length, map, refl}
use Rattle.std.specs.Prelude.{slice_set, if◌then◌else◌}
use Rattle.std.proofs.Common.{ap}
use Rattle.io_images.specs.FileMask.{inhibits_formatting, inhibits_seeks, inhibits_writes}
use Rattle.device_port.specs.declared.faults.Fault.{Fault}
use Rattle.device_port.specs.Faults.{fault_met, counted}
use Rattle.device_port.specs.FixedSize.{KeepsSize}
use Rattle.device_port.specs.Meaning.{Outcome}
use Rattle.ckd_disk.specs.declared.command.Command.{Command}
use Rattle.ckd_disk.specs.declared.command.Command.TheVariants.{Control, Read, Write}
use Rattle.ckd_disk.specs.declared.command.ControlCommand.TheVariants as control
use Rattle.ckd_disk.specs.declared.command.Read.TheVariants as read
use Rattle.ckd_disk.specs.declared.command.Write.TheVariants as write
use Rattle.ckd_disk.specs.Record.{size_at}
use Rattle.ckd_disk.specs.Track.{TrackState, bytes_before}
use Rattle.ckd_disk.specs.Access.{AccessState}
use Rattle.ckd_disk.specs.Command.{command_of}
use Rattle.ckd_disk.specs.Commands.{Written, armed_for_data, armed_for_format, armed_for_key_and_data, write_count_key_and_data}
use Rattle.ckd_disk.specs.Commands.{write_count_key_and_data_at, write_data, write_data_at, write_key_and_data, write_key_and_data_at}
use Rattle.ckd_disk.specs.Disk.{DiskState, disk, current_track, track_of, act_by, command_on, is_seek, seek_given, wrote}

-- THE SIZE OF A DISK: the faults of its script, and the bytes of each track
abbrev pub disk_size : DiskState → List ℕ
disk_size d = length d.ordinals.script ∷ map (λ t. t.size) d.tracks

-- a track in place of one of its size
sizes_set : (tracks : List TrackState) (number : ℕ) (t : TrackState) → t.size ≡ (track_of tracks number).size →
    map (λ x. x.size) (slice_set tracks number t) ≡ map (λ x. x.size) tracks
sizes_set [] number t same = refl
sizes_set (x ∷ tracks) zero t same = ap (λ n. n ∷ map (λ y. y.size) tracks) same
sizes_set (x ∷ tracks) (suc number) t same = ap (λ l. x.size ∷ l) (sizes_set tracks number t same)

-- A WRITE keeps the bytes of the track
either_keeps : (test : Bool) (x y : Written) (n : ℕ) → x.track.size ≡ n → y.track.size ≡ n → (if test then x else y).track.size ≡ n
either_keeps true x y n a b = a
either_keeps false x y n a b = b

data_keeps : (t : TrackState) (a : AccessState) (given : List ℕ) (place : Option ℕ) → (write_data_at t a given place).track.size ≡ t.size
data_keeps t a given None = refl
data_keeps t a given (Some place) = refl

key_keeps : (t : TrackState) (a : AccessState) (given : List ℕ) (place : Option ℕ) →
    (write_key_and_data_at t a given place).track.size ≡ t.size
key_keeps t a given None = refl
key_keeps t a given (Some place) = refl

format_keeps : (t : TrackState) (a : AccessState) (given : List ℕ) (place : Option ℕ) →
    (write_count_key_and_data_at t a given place).track.size ≡ t.size
format_keeps t a given None = refl
format_keeps t a given (Some place) =
    either_keeps (nat_lt (length given) 8) _ _ t.size refl
    (either_keeps (nat_lt t.size (bytes_before t.records (place + 1) + size_at given)) _ _ t.size refl refl)

-- a write on the track under the heads keeps the size of the disk
wrote_keeps : (d : DiskState) (w : Written) → w.track.size ≡ (current_track d).size → disk_size (wrote d w).device ≡ disk_size d
wrote_keeps d w same = ap (λ l. length d.ordinals.script ∷ l) (sizes_set d.tracks d.track w.track same)

kept_by : (first second : Bool) (d : DiskState) (x y z : Outcome DiskState) → disk_size x.device ≡ disk_size d →
    disk_size y.device ≡ disk_size d → disk_size z.device ≡ disk_size d →
    disk_size (if first then x else if second then y else z).device ≡ disk_size d
kept_by true second d x y z a b c = a
kept_by false true d x y z a b c = b
kept_by false false d x y z a b c = c

command_keeps : (d : DiskState) (command : Option Command) (given : List ℕ) → disk_size (command_on d command given).device ≡ disk_size d
command_keeps d None given = refl
command_keeps d (Some (Control control.NoOperation)) given = refl
command_keeps d (Some (Control control.SetFileMask)) given = refl
command_keeps d (Some (Read read.Sense)) given = refl
command_keeps d (Some (Read read.Count)) given = refl
command_keeps d (Some (Read read.Data)) given = refl
command_keeps d (Some (Read read.KeyAndData)) given = refl
command_keeps d (Some (Read read.CountKeyAndData)) given = refl
command_keeps d (Some (Write write.Seek)) given =
    kept_by (inhibits_seeks d.access.mask) (nat_lt (length given) 6 || not (is_seek d (seek_given given))) d _ _ _ refl refl refl
command_keeps d (Some (Write write.SearchId)) given = refl
command_keeps d (Some (Write write.SearchKey)) given = refl
command_keeps d (Some (Write write.Data)) given =
    let t = current_track d in
    wrote_keeps d (write_data t d.access given)
    (either_keeps (inhibits_writes d.access.mask) _ _ t.size refl (data_keeps t d.access given (armed_for_data d.access.armed)))
command_keeps d (Some (Write write.KeyAndData)) given =
    let t = current_track d in
    wrote_keeps d (write_key_and_data t d.access given)
    (either_keeps (inhibits_writes d.access.mask) _ _ t.size refl (key_keeps t d.access given (armed_for_key_and_data d.access.armed)))
command_keeps d (Some (Write write.CountKeyAndData)) given =
    let t = current_track d in
    wrote_keeps d (write_count_key_and_data t d.access given)
    (either_keeps (inhibits_formatting d.access.mask) _ _ t.size refl (format_keeps t d.access given (armed_for_format d.access.armed)))

keeps_by : (fault : Option Fault) (d : DiskState) (code : ℕ) (given : List ℕ) → disk_size (act_by fault d code given).device ≡ disk_size d
keeps_by None d code given = command_keeps d (command_of code) given
keeps_by (Some fault) d code given = refl

-- THE SIZE STAYS
pub disk_keeps_size : KeepsSize disk disk_size
disk_keeps_size = record {
  after_act = λ d code given. keeps_by (fault_met d.ordinals) (record d { ordinals = counted d.ordinals }) code given;
  after_prefix = λ d seek mask. refl;
}
