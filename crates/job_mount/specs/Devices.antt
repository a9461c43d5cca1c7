-- THE DEVICE OF A UNIT as its lines say, just mounted, or the fault Medium (profile).
use Rattle.std.specs.Prelude.{ℕ, ◌/◌, ◌%◌, Bool, nat_lt, nat_le, ◌&&◌, ◌==◌, if◌then◌else◌}
use Rattle.std.specs.Prelude.{List, ◌∷◌, length, map, filter, Result, Ok, Err}
use Rattle.std.specs.List.{list_all, range_with_len}
use Rattle.device_port.specs.declared.faults.Fault.{Fault as DeviceFault}
use Rattle.device_port.specs.Faults.{is_script}
use Rattle.ckd_disk.specs.declared.mount.Geometry.{Geometry}
use Rattle.ckd_disk.specs.Record.{Record}
use Rattle.ckd_disk.specs.Track.{TrackState, bytes_of as bytes_of_records}
use Rattle.ckd_disk.specs.Disk.{DiskState, at_start, track_number}
use Rattle.ckd_disk.specs.Mount.{id_on, is_geometry, track_count, track_descriptor}
use Rattle.tape_unit.specs.Item.{Item, is_item}
use Rattle.tape_unit.specs.Reel.{bytes_of as bytes_of_items}
use Rattle.tape_unit.specs.Tape.{TapeState}
use Rattle.tape_unit.specs.Mount.{is_size}
use Rattle.line_printer.specs.Mount.{is_paper, opening as opening_printer}
use Rattle.any_device.specs.declared.device.AnyDevice.{AnyDevice}
use Rattle.any_device.specs.declared.device.AnyDevice.TheVariants.{Disk, Tape, Printer}
use Rattle.job_script.specs.declared.fault.FaultName.{FaultName}
use Rattle.job_script.specs.declared.fault.FaultName.TheVariants as names
use Rattle.job_script.specs.Said.{MediumSaid, RecordSaid, UnitSaid, disk, printer, tape}

-- the number of a record's track
abbrev pub track_number_of : Geometry → RecordSaid → ℕ
track_number_of g r = track_number g.heads r.cylinder r.head

-- a record is on this track
abbrev pub lies_on : Geometry → ℕ → RecordSaid → Bool
lies_on g track r = track_number_of g r == track

-- a record as it is on its track
abbrev pub record_on : RecordSaid → Record
record_on r = record { id = id_on r.cylinder r.head r.number; key = r.key; content = r.content }

-- the records of a track: R0, and after it those of the script, in the order of their lines
abbrev pub records_on : Geometry → List RecordSaid → ℕ → List Record
records_on g records track =
    track_descriptor (track / g.heads) (track % g.heads) ∷ map record_on (filter (lies_on g track) records)

-- a record lies in the geometry, is not R0, and its lengths fit a count area
abbrev pub is_record : Geometry → RecordSaid → Bool
is_record g r =
    nat_lt r.cylinder g.cylinders && nat_lt r.head g.heads && nat_le 1 r.number
    && nat_le (length r.key) 255 && nat_le (length r.content) 65_535

-- the track of a record has room for all its records
abbrev pub track_has_room : Geometry → List RecordSaid → RecordSaid → Bool
track_has_room g records r = nat_le (bytes_of_records (records_on g records (track_number_of g r))) g.track_bytes

-- the records and the faults are such as a disk of this geometry may have
abbrev pub fits_disk : Geometry → List RecordSaid → List DeviceFault → Bool
fits_disk g records faults = is_script faults && list_all (is_record g) records && list_all (track_has_room g records) records

-- the track with this number, with its records
abbrev pub track_with : Geometry → List RecordSaid → ℕ → TrackState
track_with g records track = record { size = g.track_bytes; records = records_on g records track }

-- a disk with these records, at the index point of track 0, which is to meet these faults
abbrev pub disk_with : Geometry → List RecordSaid → List DeviceFault → DiskState
disk_with g records faults = record {
  cylinders = g.cylinders;
  heads = g.heads;
  tracks = map (track_with g records) (range_with_len 0 (track_count g));
  track = 0;
  access = at_start 0;
  ordinals = record { script = faults; done = 0 };
}

-- the items and the faults are such as a tape of this many bytes may have
abbrev pub fits_tape : ℕ → List Item → List DeviceFault → Bool
fits_tape bytes items faults = is_script faults && list_all is_item items && nat_le (bytes_of_items items) bytes

-- a tape with these items, at the load point, which is to meet these faults
abbrev pub tape_with : ℕ → List Item → List DeviceFault → TapeState
tape_with bytes items faults =
    record { reel = record { size = bytes; items = items }; place = 0; ordinals = record { script = faults; done = 0 } }

-- a device that can be mounted, or the fault Medium
abbrev pub if_mountable : Bool → AnyDevice → Result AnyDevice FaultName
if_mountable can device = if can then Ok device else Err names.Medium

-- a medium with these faults, mounted
abbrev pub mounted : MediumSaid → List DeviceFault → Result AnyDevice FaultName
mounted (disk g records) faults = if_mountable (is_geometry g && fits_disk g records faults) (Disk (disk_with g records faults))
mounted (tape bytes items) faults = if_mountable (is_size bytes && fits_tape bytes items faults) (Tape (tape_with bytes items faults))
mounted (printer lines pages) faults = if_mountable (is_paper lines pages && is_script faults)
    (Printer (opening_printer lines pages faults))

-- THE DEVICE OF A UNIT
abbrev pub device_of : UnitSaid → Result AnyDevice FaultName
device_of unit = mounted unit.medium unit.faults
