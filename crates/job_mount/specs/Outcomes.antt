-- WHAT A CALL RETURNS, by the books of a script; out of memory apart.
use Rattle.std.specs.Prelude.{◌≡◌, ℕ, Vec, List, map, Option, Some, None, Result, Ok, Err}
use Rattle.std.specs.declared.alloc.AllocError.{AllocError}
use Rattle.std.specs.declared.alloc.Global.{Global}
use Rattle.device_port.specs.declared.device.MountError.{MountError}
use Rattle.device_port.specs.declared.device.MountError.TheVariants.{BadGeometry, BadMedium, NoMemory}
use Rattle.unit_book.specs.Book.{Book, opening}
use Rattle.any_device.specs.declared.device.AnyDevice.{AnyDevice}
use Rattle.job_script.specs.declared.fault.JobError.{JobError}
use Rattle.job_script.specs.declared.fault.JobError.TheVariants as faults
use Rattle.job_script.specs.declared.fault.FaultName.{FaultName}
use Rattle.job_script.specs.declared.fault.FaultName.TheVariants as names
use Rattle.job_script.specs.Grammar.{FaultAt}
use Rattle.job_script.specs.Said.{OpeningSaid, UnitSaid}
use Rattle.job_mount.specs.Mounting.{at, device_with}
use Rattle.job_mount.specs.Openings.{open_all}

-- a book apart from the room that its trace has
abbrev pub without_spare : Book AnyDevice → Book AnyDevice
without_spare book = record book { spare = 0 }

-- the books of units in the order of their numbers
abbrev pub all_without_spare : Vec (Book AnyDevice) Global → List (Book AnyDevice)
all_without_spare books = map without_spare books.items

-- a call mounted this device, or found that it cannot be mounted
abbrev pub MountsDevice : Result AnyDevice FaultName → Result AnyDevice MountError → Type 0
MountsDevice read (Ok device) = read ≡ Ok device
MountsDevice read (Err BadGeometry) = read ≡ Err names.Medium
MountsDevice read (Err BadMedium) = read ≡ Err names.Medium
MountsDevice read (Err NoMemory) = Unit {0}

-- a call ended with the fault that was to be read, out of memory apart
abbrev pub Refuses : {X : Type 0} → Result X FaultAt → JobError → Type 0
Refuses read (faults.Line line name) = read ≡ Err (record { line = line; name = name })
Refuses read faults.NoMemory = Unit {0}
Refuses read faults.TooLong = ⊥
Refuses read faults.Unreadable = ⊥
Refuses read faults.NotWritten = ⊥
Refuses read faults.Unmatched = ⊥
Refuses read faults.NoThread = ⊥

-- a call returned the device of a unit that may be given one, or found that the unit cannot be mounted
abbrev pub FindsDevice : Option AnyDevice → UnitSaid → Result AnyDevice JobError → Type 0
FindsDevice given unit (Ok device) = device_with given unit ≡ Ok device
FindsDevice given unit (Err fault) = Refuses (at unit.line (device_with given unit)) fault

-- a call made the book of a unit that may be given a device, without a DCB, or found that the unit cannot be mounted
abbrev pub MountsBook : ℕ → Option AnyDevice → UnitSaid → Result (Book AnyDevice) JobError → Type 0
MountsBook capacity given unit (Ok book) =
    (device_with given unit ≡ Ok book.mounted) × (without_spare book ≡ opening book.mounted unit.isc capacity)
MountsBook capacity given unit (Err fault) = Refuses (at unit.line (device_with given unit)) fault

-- a call opened the DCBs of a unit, or found the line of the first that cannot be opened
abbrev pub Opens : Book AnyDevice → List OpeningSaid → Result (Option ℕ) AllocError → Book AnyDevice → Type 0
Opens old openings (Ok None) new = open_all (without_spare old) openings ≡ Ok (without_spare new)
Opens old openings (Ok (Some line)) new = open_all (without_spare old) openings ≡ Err line
Opens old openings (Err e) new = Unit {0}

-- a call found that each request can be made, or the first that cannot
abbrev pub Tries : Result (Unit {0}) JobError → Result (Unit {0}) FaultAt → Type 0
Tries (Ok x) read = read ≡ Ok tt
Tries (Err fault) read = Refuses read fault
