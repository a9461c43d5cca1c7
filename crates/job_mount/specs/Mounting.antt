-- THE BOOKS OF A SCRIPT after mounting and opening, if all its requests can be made; or its first fault (profile).
-- All units are mounted first, then all DCBs are opened, then all requests are tried. Units may be given a device that is
-- mounted already, as from an image: a list by unit number, with no device for each unit that its lines mount.
use Rattle.std.specs.Prelude.{ℕ, List, [], ◌∷◌, if◌then◌else◌, Option, Some, None, Result, Ok, Err}
use Rattle.unit_book.specs.Book.{Book, opening}
use Rattle.any_device.specs.declared.device.AnyDevice.{AnyDevice}
use Rattle.job_script.specs.declared.fault.FaultName.{FaultName}
use Rattle.job_script.specs.declared.fault.FaultName.TheVariants as names
use Rattle.job_script.specs.Grammar.{FaultAt}
use Rattle.job_script.specs.Said.{CommandSaid, Said, UnitSaid}
use Rattle.job_mount.specs.Devices.{device_of}
use Rattle.job_mount.specs.Openings.{beside, open_all}
use Rattle.job_mount.specs.Requests.{is_doable}

-- what one step gives goes into the next one; the first fault ends the steps
infixl 10 ◌>>=◌
abbrev pub ◌>>=◌ : {A B : Type 0} → Result A FaultAt → (A → Result B FaultAt) → Result B FaultAt
(Ok x) >>= f = f x
(Err fault) >>= f = Err fault

-- a fault is that of this line
abbrev pub at : {A : Type 0} → ℕ → Result A FaultName → Result A FaultAt
at line (Ok x) = Ok x
at line (Err name) = Err (record { line = line; name = name })

-- a line at fault has the fault Extent
abbrev pub at_extent : {A : Type 0} → Result A ℕ → Result A FaultAt
at_extent (Ok x) = Ok x
at_extent (Err line) = Err (record { line = line; name = names.Extent })

-- the device that is given for the first unit, if one is
abbrev pub first_given : List (Option AnyDevice) → Option AnyDevice
first_given [] = None
first_given (device ∷ others) = device

-- what is given for the units after the first
abbrev pub given_after : List (Option AnyDevice) → List (Option AnyDevice)
given_after [] = []
given_after (device ∷ others) = others

-- the device of a unit: the given one, or else that of its lines
abbrev pub device_with : Option AnyDevice → UnitSaid → Result AnyDevice FaultName
device_with None unit = device_of unit
device_with (Some device) unit = Ok device

-- the devices of units in the order of their numbers, or the fault of the first that cannot be mounted, at its line
unfoldable pub devices_with : List (Option AnyDevice) → List UnitSaid → Result (List AnyDevice) FaultAt
devices_with given [] = Ok []
devices_with given (unit ∷ others) = do
  device ← at unit.line (device_with (first_given given) unit)
  devices ← devices_with (given_after given) others
  Ok (device ∷ devices)

-- the books of units with these devices and all DCBs open, or the first line, of all units, whose DCB cannot be opened
unfoldable pub opened : ℕ → List UnitSaid → List AnyDevice → Result (List (Book AnyDevice)) ℕ
opened capacity [] devices = Ok []
opened capacity (unit ∷ others) [] = Ok []
opened capacity (unit ∷ others) (device ∷ devices) =
    beside (open_all (opening device unit.isc capacity) unit.openings) (opened capacity others devices)

-- the units mounted, and then their DCBs opened
unfoldable pub units_with : ℕ → List (Option AnyDevice) → List UnitSaid → Result (List (Book AnyDevice)) FaultAt
units_with capacity given units = do
  devices ← devices_with given units
  at_extent (opened capacity units devices)

-- each request can be made, or the fault Request at the line of the first that cannot
unfoldable pub tried : List CommandSaid → Result (Unit {0}) FaultAt
tried [] = Ok tt
tried (command ∷ others) =
    if is_doable command.action then tried others else Err (record { line = command.line; name = names.Request })

-- THE BOOKS OF A SCRIPT whose units are given these devices, each for this many requests at a time, or its first fault
unfoldable pub books_with : List (Option AnyDevice) → ℕ → Said → Result (List (Book AnyDevice)) FaultAt
books_with given capacity s = do
  books ← units_with capacity given s.set_up.units
  _ ← tried s.commands
  Ok books

-- the books of a script whose units are all mounted as their lines say
abbrev pub books_of : ℕ → Said → Result (List (Book AnyDevice)) FaultAt
books_of capacity s = books_with [] capacity s
