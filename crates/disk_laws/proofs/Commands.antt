-- Each command of a disk keeps what its file mask says.
use Rattle.std.proofs.Common.{◌≡◌, ℕ, ◌+◌, List, ◌++◌, length, Bool, true, false, not, ◌||◌, if◌then◌else◌, Option, Some, None}
use Rattle.std.proofs.Common.{refl, ap, ◌∙◌}
use Rattle.std.specs.Prelude.{nat_lt, slice_set}
use Rattle.std.proofs.lemmas.Bool.{or_left}
use Rattle.std.proofs.lemmas.List.{set-get_or, get_or-set_other}
use Rattle.io_images.specs.FileMask.{inhibits_seeks, inhibits_writes, inhibits_formatting}
use Rattle.device_port.specs.declared.faults.Fault.{Fault}
use Rattle.device_port.specs.Faults.{fault_met, counted}
use Rattle.device_port.specs.Meaning.{Outcome}
use Rattle.ckd_disk.specs.declared.command.Command.{Command}
use Rattle.ckd_disk.specs.declared.command.Command.TheVariants.{Control, Read, Write}
use Rattle.ckd_disk.specs.declared.command.ControlCommand.TheVariants as control
use Rattle.ckd_disk.specs.declared.command.Read.TheVariants as read
use Rattle.ckd_disk.specs.declared.command.Write.TheVariants as write
use Rattle.ckd_disk.specs.Record.{Record, packed, size_at}
use Rattle.ckd_disk.specs.Track.{TrackState, bytes_before}
use Rattle.ckd_disk.specs.Access.{AccessState}
use Rattle.ckd_disk.specs.Walk.{Reached, next, next_record, key_record, content_record}
use Rattle.ckd_disk.specs.Command.{command_of}
use Rattle.ckd_disk.specs.Commands.{Answer, Written, refused, read_count_at, read_part, search_key_at, write_data_at}
use Rattle.ckd_disk.specs.Commands.{write_key_and_data_at, write_count_key_and_data_at}
use Rattle.ckd_disk.specs.Commands.{armed_for_data, armed_for_key_and_data, armed_for_format}
use Rattle.ckd_disk.specs.Disk.{DiskState, current_track, no_track, wrote, is_seek, seek_given, act_by, act, command_on}
use Rattle.disk_laws.specs.Views.{disk_view}
use Rattle.disk_laws.proofs.Steps.{Shields}

abbrev pub disk_mask : DiskState → ℕ
disk_mask d = d.access.mask

abbrev pub Kept : DiskState → DiskState → Type 0
Kept before after = Shields disk_view disk_mask before after

-- a command that leaves the medium
kept-answered : (d : DiskState) (access : AccessState) → access.mask ≡ d.access.mask → Kept d (record d { access = access })
kept-answered d access m = record { mask_is = m; stays = λ s. refl; others = λ s number apart. refl; medium = λ w. refl }

either-mask : (first : Bool) (x y : Answer) (mask : ℕ) → x.access.mask ≡ mask → y.access.mask ≡ mask →
    (if first then x else y).access.mask ≡ mask
either-mask true x y mask a b = a
either-mask false x y mask a b = b

key-mask : (t : TrackState) (a : AccessState) (given : List ℕ) (reached : Option Reached) →
    (search_key_at t a given reached).access.mask ≡ a.mask
key-mask t a given None = refl
key-mask t a given (Some reached) = either-mask (nat_lt (a.passes + reached.passed) 2) _ _ a.mask refl refl

count-mask : (t : TrackState) (a : AccessState) (reached : Option Reached) → (read_count_at t a reached).access.mask ≡ a.mask
count-mask t a None = refl
count-mask t a (Some reached) = refl

part-mask : (part : Record → List ℕ) (t : TrackState) (a : AccessState) (reached : Option Reached) →
    (read_part part t a reached).access.mask ≡ a.mask
part-mask part t a None = refl
part-mask part t a (Some reached) = refl

-- a command that writes on the track under the heads
record WritesKept (t : TrackState) (a : AccessState) (w : Written) : Type 0 where
  mask_is : w.access.mask ≡ a.mask
  track_is : inhibits_writes a.mask ≡ true → w.track ≡ t

kept-wrote : (d : DiskState) (w : Written) → WritesKept (current_track d) d.access w → Kept d (wrote d w).device
kept-wrote d w k = record {
  mask_is = k.mask_is;
  stays = λ s. refl;
  others = λ s number apart. get_or-set_other d.tracks d.track number w.track no_track apart;
  medium = λ h. ap (λ t. slice_set d.tracks d.track t) (k.track_is h) ∙ set-get_or d.tracks d.track no_track;
}

-- it is refused where the mask inhibits it
guarded : (t : TrackState) (a : AccessState) (sense : ℕ) (inhibited : Bool) (w : Written) →
    (inhibits_writes a.mask ≡ true → inhibited ≡ true) → w.access.mask ≡ a.mask →
    WritesKept t a (if inhibited then refused sense t a else w)
guarded t a sense true w h m = record { mask_is = refl; track_is = λ i. refl }
guarded t a sense false w h m = record { mask_is = m; track_is = λ i. let k = h i in absurd cc }

data-mask : (t : TrackState) (a : AccessState) (given : List ℕ) (place : Option ℕ) → (write_data_at t a given place).access.mask ≡ a.mask
data-mask t a given None = refl
data-mask t a given (Some place) = refl

key_and_data-mask : (t : TrackState) (a : AccessState) (given : List ℕ) (place : Option ℕ) →
    (write_key_and_data_at t a given place).access.mask ≡ a.mask
key_and_data-mask t a given None = refl
key_and_data-mask t a given (Some place) = refl

written-mask : (first second : Bool) (x y z : Written) (mask : ℕ) → x.access.mask ≡ mask → y.access.mask ≡ mask → z.access.mask ≡ mask →
    (if first then x else if second then y else z).access.mask ≡ mask
written-mask true second x y z mask a b c = a
written-mask false true x y z mask a b c = b
written-mask false false x y z mask a b c = c

format-mask : (t : TrackState) (a : AccessState) (given : List ℕ) (place : Option ℕ) →
    (write_count_key_and_data_at t a given place).access.mask ≡ a.mask
format-mask t a given None = refl
format-mask t a given (Some place) =
    written-mask (nat_lt (length given) 8) (nat_lt t.size (bytes_before t.records (place + 1) + size_at given)) _ _ _ a.mask refl refl refl

-- a seek
kept-seek : (inhibited misplaced : Bool) (d : DiskState) (x y z : Outcome DiskState) → inhibits_seeks d.access.mask ≡ inhibited →
    Kept d x.device → Kept d y.device → z.device.access.mask ≡ d.access.mask → z.device.tracks ≡ d.tracks →
    Kept d (if inhibited then x else if misplaced then y else z).device
kept-seek true misplaced d x y z e a b mask tracks = a
kept-seek false true d x y z e a b mask tracks = b
kept-seek false false d x y z e a b mask tracks = record {
  mask_is = mask;
  stays = λ s. absurd cc;
  others = λ s. absurd cc;
  medium = λ w. tracks;
}

pub kept-command : (d : DiskState) (command : Option Command) (given : List ℕ) → Kept d (command_on d command given).device
kept-command d None given = kept-answered d _ refl
kept-command d (Some (Control control.NoOperation)) given = kept-answered d _ refl
kept-command d (Some (Control control.SetFileMask)) given = kept-answered d _ refl
kept-command d (Some (Read read.Sense)) given = kept-answered d _ refl
kept-command d (Some (Read read.Count)) given =
    kept-answered d _ (count-mask (current_track d) d.access (next_record d.access.orientation (length (current_track d).records)))
kept-command d (Some (Read read.Data)) given =
    kept-answered d _ (part-mask (λ r. r.content) (current_track d) d.access
    (content_record d.access.orientation (length (current_track d).records)))
kept-command d (Some (Read read.KeyAndData)) given =
    kept-answered d _ (part-mask (λ r. r.key ++ r.content) (current_track d) d.access
    (key_record d.access.orientation (length (current_track d).records)))
kept-command d (Some (Read read.CountKeyAndData)) given =
    kept-answered d _ (part-mask packed (current_track d) d.access (next_record d.access.orientation (length (current_track d).records)))
kept-command d (Some (Write write.Seek)) given =
    kept-seek (inhibits_seeks d.access.mask) (nat_lt (length given) 6 || not (is_seek d (seek_given given))) d _ _ _ refl
    (kept-answered d _ refl) (kept-answered d _ refl) refl refl
kept-command d (Some (Write write.SearchId)) given =
    let reached = next d.access.orientation (length (current_track d).records) in
    kept-answered d _ (either-mask (nat_lt (d.access.passes + reached.passed) 2) _ _ d.access.mask refl refl)
kept-command d (Some (Write write.SearchKey)) given =
    kept-answered d _ (key-mask (current_track d) d.access given (key_record d.access.orientation (length (current_track d).records)))
kept-command d (Some (Write write.Data)) given =
    kept-wrote d _ (guarded (current_track d) d.access _ (inhibits_writes d.access.mask) _ (λ i. i)
    (data-mask (current_track d) d.access given (armed_for_data d.access.armed)))
kept-command d (Some (Write write.KeyAndData)) given =
    kept-wrote d _ (guarded (current_track d) d.access _ (inhibits_writes d.access.mask) _ (λ i. i)
    (key_and_data-mask (current_track d) d.access given (armed_for_key_and_data d.access.armed)))
kept-command d (Some (Write write.CountKeyAndData)) given =
    kept-wrote d _ (guarded (current_track d) d.access _ (inhibits_formatting d.access.mask) _
    (λ i. or_left (inhibits_writes d.access.mask) _ i)
    (format-mask (current_track d) d.access given (armed_for_format d.access.armed)))

kept-by : (fault : Option Fault) (d : DiskState) (code : ℕ) (given : List ℕ) → Kept d (act_by fault d code given).device
kept-by None d code given = kept-command d (command_of code) given
kept-by (Some fault) d code given = record { mask_is = refl; stays = λ s. refl; others = λ s number apart. refl; medium = λ w. refl }

-- EACH COMMAND of a disk
pub kept-act : (d : DiskState) (code : ℕ) (given : List ℕ) → Kept d (act d code given).device
kept-act d code given =
    let k = kept-by (fault_met d.ordinals) (record d { ordinals = counted d.ordinals }) code given in
    record { mask_is = k.mask_is; stays = k.stays; others = k.others; medium = k.medium }
