-- WHERE A COMMAND WAS: what its position says of the device after the command (profile).
use Rattle.std.specs.Prelude.{◌≡◌, ◌⊎◌, ℕ, ◌+◌, ◌-◌, ◌^◌, Option, Some, None, min, ⊤}
use Rattle.ckd_disk.specs.Access.{Orientation, at_index, at_count, at_key, at_end}
use Rattle.ckd_disk.specs.Disk.{DiskState, track_number}
use Rattle.any_device.specs.declared.device.AnyDevice.{AnyDevice}
use Rattle.any_device.specs.declared.device.AnyDevice.TheVariants.{Disk, Tape, Printer}
use Rattle.unit_history.specs.declared.before.CommandEnd.{CommandEnd}
use Rattle.unit_history.specs.declared.before.CommandEnd.TheVariants.{Normal, Check, Fault}
use Rattle.unit_history.specs.declared.place.Passed.{Passed}
use Rattle.unit_history.specs.declared.place.MediumPosition.{MediumPosition}
use Rattle.unit_history.specs.declared.place.MediumPosition.TheVariants.{Record, NoRecord, Item, Line}
use Rattle.unit_history.specs.declared.place.RecordPlace.{RecordPlace}

-- the position on its track of the record that the heads are after
abbrev pub record_after : Orientation → Option ℕ
record_after at_index = None
record_after (at_count place) = Some place
record_after (at_key place) = Some place
record_after (at_end place) = Some place

-- a record is the one that the heads are after
pub record IsHere (disk : DiskState) (place : RecordPlace) : Type 0 where
  pub track : track_number disk.heads place.cylinder place.head ≡ disk.track
  pub nth : record_after disk.access.orientation ≡ Some place.nth

-- a search looked on the track under the heads
pub record IsSearched (disk : DiskState) (passed : Passed) : Type 0 where
  pub track : track_number disk.heads passed.cylinder passed.head ≡ disk.track
  pub here : passed.disk.now ≡ disk

-- a command ended with unit check
abbrev pub IsCheck : CommandEnd → Type 0
IsCheck (Check sense) = ⊤
IsCheck Normal = ⊥
IsCheck Fault = ⊥

-- an item is the last one before the head of a tape, or the next one
abbrev pub IsBeside : ℕ → ℕ → Type 0
IsBeside before number = (number ≡ before) ⊎ (number ≡ min (before + 1) (2 ^ 64 - 1))

-- WHERE A COMMAND WAS that ended so, by the device after it. A command that met a fault was nowhere. One that ended with unit
-- check is a search that found no record.
abbrev pub IsWhere : AnyDevice → CommandEnd → MediumPosition → Type 0
IsWhere (Disk disk) ended (Record place) = (ended ≡ Normal) × IsHere disk place
IsWhere (Disk disk) ended (NoRecord passed) = IsCheck ended × IsSearched disk passed
IsWhere (Disk disk) ended (Item number) = ⊥
IsWhere (Disk disk) ended (Line at) = ⊥
IsWhere (Tape tape) ended (Record place) = ⊥
IsWhere (Tape tape) ended (NoRecord passed) = ⊥
IsWhere (Tape tape) ended (Item number) = (ended ≡ Normal) × IsBeside tape.place number
IsWhere (Tape tape) ended (Line at) = ⊥
IsWhere (Printer printer) ended (Record place) = ⊥
IsWhere (Printer printer) ended (NoRecord passed) = ⊥
IsWhere (Printer printer) ended (Item number) = ⊥
IsWhere (Printer printer) ended (Line at) = ended ≡ Normal
