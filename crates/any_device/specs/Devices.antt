-- THE DEVICE OF A UNIT is a disk, a tape or a printer, and means what that one means.
use Rattle.std.specs.Prelude.{◌≡◌, ◌≢◌, ℕ, List}
use Rattle.std.proofs.Common.{ap}
use Rattle.io_images.specs.declared.seek.Seek.{Seek}
use Rattle.device_port.specs.declared.kind.Flow.{Flow}
use Rattle.device_port.specs.declared.kind.Flow.TheVariants.{None as NoFlow, Out, Input, Back}
use Rattle.device_port.specs.declared.kind.Kind.{Kind}
use Rattle.device_port.specs.declared.kind.Kind.TheVariants.{Disk as DiskKind}
use Rattle.device_port.specs.Meaning.{Meaning, Outcome, Lawful, GivesWhatItWants}
use Rattle.ckd_disk.specs.Disk.{disk}
use Rattle.ckd_disk.specs.DiskLaws.{disk_lawful}
use Rattle.tape_unit.specs.Tape.{tape}
use Rattle.tape_unit.specs.TapeLaws.{tape_lawful}
use Rattle.line_printer.specs.Printer.{printer}
use Rattle.line_printer.specs.PrinterLaws.{printer_lawful}
use Rattle.any_device.specs.declared.device.AnyDevice.{AnyDevice}
use Rattle.any_device.specs.declared.device.AnyDevice.TheVariants.{Disk, Tape, Printer}

-- the kind of a device
abbrev pub kind_of : AnyDevice → Kind
kind_of (Disk d) = disk.kind d
kind_of (Tape t) = tape.kind t
kind_of (Printer p) = printer.kind p

-- how many cylinders a device has
abbrev pub cylinders_of : AnyDevice → ℕ
cylinders_of (Disk d) = disk.cylinders d
cylinders_of (Tape t) = tape.cylinders t
cylinders_of (Printer p) = printer.cylinders p

-- how many heads a device has
abbrev pub heads_of : AnyDevice → ℕ
heads_of (Disk d) = disk.heads d
heads_of (Tape t) = tape.heads t
heads_of (Printer p) = printer.heads p

-- the direction of the data of a command
abbrev pub flow_of : AnyDevice → ℕ → Flow
flow_of (Disk d) command = disk.flow d command
flow_of (Tape t) command = tape.flow t command
flow_of (Printer p) command = printer.flow p command

-- a device after a seek and a file mask
abbrev pub prefixed : AnyDevice → Seek → ℕ → AnyDevice
prefixed (Disk d) seek mask = Disk (disk.prefix d seek mask)
prefixed (Tape t) seek mask = Tape (tape.prefix t seek mask)
prefixed (Printer p) seek mask = Printer (printer.prefix p seek mask)

-- the outcome of a command on one of the three
abbrev pub as_unit : {D : Type 0} → (D → AnyDevice) → Outcome D → Outcome AnyDevice
as_unit kind outcome = record { acted = outcome.acted; device = kind outcome.device; bytes = outcome.bytes }

-- a device after a command, by the meaning of its kind
abbrev pub acted_on : AnyDevice → ℕ → List ℕ → Outcome AnyDevice
acted_on (Disk d) command given = as_unit Disk (disk.act d command given)
acted_on (Tape t) command given = as_unit Tape (tape.act t command given)
acted_on (Printer p) command given = as_unit Printer (printer.act p command given)

-- THE MEANING OF A UNIT'S DEVICE
abbrev pub any_device : Meaning AnyDevice
any_device =
    record { kind = kind_of; cylinders = cylinders_of; heads = heads_of; flow = flow_of; prefix = prefixed; act = acted_on }

-- it gives the bytes that the one that it is gives
gives_as : {D : Type 0} (kind : D → AnyDevice) (flow : Flow) (o : Outcome D) → GivesWhatItWants flow o →
    GivesWhatItWants flow (as_unit kind o)
gives_as kind NoFlow o h = h
gives_as kind Out o h = h
gives_as kind Input o h = h
gives_as kind Back o h = h

kind_stays : (d : AnyDevice) (command : ℕ) (given : List ℕ) → kind_of (acted_on d command given).device ≡ kind_of d
kind_stays (Disk d) command given = disk_lawful.kind_after_act d command given
kind_stays (Tape t) command given = tape_lawful.kind_after_act t command given
kind_stays (Printer p) command given = printer_lawful.kind_after_act p command given

cylinders_stay : (d : AnyDevice) (command : ℕ) (given : List ℕ) → cylinders_of (acted_on d command given).device ≡ cylinders_of d
cylinders_stay (Disk d) command given = disk_lawful.cylinders_after_act d command given
cylinders_stay (Tape t) command given = tape_lawful.cylinders_after_act t command given
cylinders_stay (Printer p) command given = printer_lawful.cylinders_after_act p command given

heads_stay : (d : AnyDevice) (command : ℕ) (given : List ℕ) → heads_of (acted_on d command given).device ≡ heads_of d
heads_stay (Disk d) command given = disk_lawful.heads_after_act d command given
heads_stay (Tape t) command given = tape_lawful.heads_after_act t command given
heads_stay (Printer p) command given = printer_lawful.heads_after_act p command given

kind_under_prefix : (d : AnyDevice) (seek : Seek) (mask : ℕ) → kind_of (prefixed d seek mask) ≡ kind_of d
kind_under_prefix (Disk d) seek mask = disk_lawful.kind_after_prefix d seek mask
kind_under_prefix (Tape t) seek mask = tape_lawful.kind_after_prefix t seek mask
kind_under_prefix (Printer p) seek mask = printer_lawful.kind_after_prefix p seek mask

cylinders_under_prefix : (d : AnyDevice) (seek : Seek) (mask : ℕ) → cylinders_of (prefixed d seek mask) ≡ cylinders_of d
cylinders_under_prefix (Disk d) seek mask = disk_lawful.cylinders_after_prefix d seek mask
cylinders_under_prefix (Tape t) seek mask = tape_lawful.cylinders_after_prefix t seek mask
cylinders_under_prefix (Printer p) seek mask = printer_lawful.cylinders_after_prefix p seek mask

heads_under_prefix : (d : AnyDevice) (seek : Seek) (mask : ℕ) → heads_of (prefixed d seek mask) ≡ heads_of d
heads_under_prefix (Disk d) seek mask = disk_lawful.heads_after_prefix d seek mask
heads_under_prefix (Tape t) seek mask = tape_lawful.heads_after_prefix t seek mask
heads_under_prefix (Printer p) seek mask = printer_lawful.heads_after_prefix p seek mask

gives_what_it_wants : (d : AnyDevice) (command : ℕ) (given : List ℕ) → GivesWhatItWants (flow_of d command) (acted_on d command given)
gives_what_it_wants (Disk d) command given = gives_as Disk (disk.flow d command) (disk.act d command given)
    (disk_lawful.gives d command given)
gives_what_it_wants (Tape t) command given = gives_as Tape (tape.flow t command) (tape.act t command given)
    (tape_lawful.gives t command given)
gives_what_it_wants (Printer p) command given = gives_as Printer (printer.flow p command) (printer.act p command given)
    (printer_lawful.gives p command given)

no_cylinders : (d : AnyDevice) → kind_of d ≢ DiskKind → cylinders_of d ≡ 0
no_cylinders (Disk d) off = disk_lawful.cylinders_off_disk d off
no_cylinders (Tape t) off = tape_lawful.cylinders_off_disk t off
no_cylinders (Printer p) off = printer_lawful.cylinders_off_disk p off

no_heads : (d : AnyDevice) → kind_of d ≢ DiskKind → heads_of d ≡ 0
no_heads (Disk d) off = disk_lawful.heads_off_disk d off
no_heads (Tape t) off = tape_lawful.heads_off_disk t off
no_heads (Printer p) off = printer_lawful.heads_off_disk p off

no_prefix : (d : AnyDevice) (seek : Seek) (mask : ℕ) → kind_of d ≢ DiskKind → prefixed d seek mask ≡ d
no_prefix (Disk d) seek mask off = ap Disk (disk_lawful.prefix_off_disk d seek mask off)
no_prefix (Tape t) seek mask off = ap Tape (tape_lawful.prefix_off_disk t seek mask off)
no_prefix (Printer p) seek mask off = ap Printer (printer_lawful.prefix_off_disk p seek mask off)

-- it keeps the laws of a device
pub any_device_lawful : Lawful any_device
any_device_lawful = record {
  kind_after_act = kind_stays;
  cylinders_after_act = cylinders_stay;
  heads_after_act = heads_stay;
  kind_after_prefix = kind_under_prefix;
  cylinders_after_prefix = cylinders_under_prefix;
  heads_after_prefix = heads_under_prefix;
  cylinders_off_disk = no_cylinders;
  heads_off_disk = no_heads;
  prefix_off_disk = no_prefix;
  gives = gives_what_it_wants;
}
