-- WHY A UNIT IS NOT ADDED: the first reason that applies (profile).
use Rattle.std.specs.Prelude.{◌≡◌, ◌≤◌, ◌<◌, ◌⊎◌, ◌==◌, ◌&&◌, Bool, ℕ, length, true, false}
use Rattle.ckd_disk.specs.declared.mount.Geometry.{Geometry}
use Rattle.ckd_disk.specs.Mount.{is_geometry, is_medium as is_disk_medium}
use Rattle.device_port.specs.Faults.{is_script}
use Rattle.line_printer.specs.Mount.{is_paper}
use Rattle.tape_unit.specs.Mount.{is_size, is_medium as is_tape_medium}
use Rattle.excp_site.specs.Sites.{SiteView, is_room}
use Rattle.excp_site.specs.declared.refusal.Refusal.{Refusal}
use Rattle.excp_site.specs.declared.refusal.Refusal.TheVariants.{NoMemory, BadNumber, TooManyUnits, BadGeometry, BadMedium}

-- a unit with this room can be added
abbrev pub CanAdd : SiteView → ℕ → ℕ → Type 0
CanAdd s in_flight held = (is_room in_flight held ≡ true) × (length s.plain.units < 65_535)

-- whatever the device is
abbrev pub AddRefused : SiteView → ℕ → ℕ → Refusal → Type 0
AddRefused s in_flight held BadNumber = is_room in_flight held ≡ false
AddRefused s in_flight held TooManyUnits = (is_room in_flight held ≡ true) × (65_535 ≤ length s.plain.units)
AddRefused s in_flight held _ = ⊥

-- by whether nothing of another device was put, whether the size is one, and whether what was put is such a medium
abbrev pub MountRefused : SiteView → Bool → Bool → Bool → ℕ → ℕ → Refusal → Type 0
MountRefused s is_alone is_size is_medium in_flight held BadGeometry = CanAdd s in_flight held × (is_alone ≡ true) × (is_size ≡ false)
MountRefused s is_alone is_size is_medium in_flight held BadMedium =
    CanAdd s in_flight held × ((is_alone ≡ false) ⊎ ((is_alone ≡ true) × (is_size ≡ true) × (is_medium ≡ false)))
MountRefused s is_alone is_size is_medium in_flight held NoMemory =
    CanAdd s in_flight held × (is_alone ≡ true) × (is_size ≡ true) × (is_medium ≡ true)
MountRefused s is_alone is_size is_medium in_flight held e = AddRefused s in_flight held e

-- no record was put, or no item of a tape
abbrev pub has_no_records : SiteView → Bool
has_no_records s = length s.medium.records.items == 0

abbrev pub has_no_items : SiteView → Bool
has_no_items s = length s.medium.items.items == 0

-- WHAT A MOUNT TAKES: nothing of another device was put, the size is one, and what was put is such a medium
abbrev pub CanMount : Bool → Bool → Bool → Type 0
CanMount is_alone is_size is_medium = (is_alone ≡ true) × (is_size ≡ true) × (is_medium ≡ true)

abbrev pub DiskTaken : SiteView → Geometry → Type 0
DiskTaken s g = CanMount (has_no_items s) (is_geometry g) (is_disk_medium g s.medium.records.items s.medium.faults.items)

abbrev pub TapeTaken : SiteView → ℕ → Type 0
TapeTaken s bytes = CanMount (has_no_records s) (is_size bytes) (is_tape_medium bytes s.medium.items.items s.medium.faults.items)

abbrev pub PrinterTaken : SiteView → ℕ → ℕ → Type 0
PrinterTaken s lines pages = CanMount (has_no_records s && has_no_items s) (is_paper lines pages) (is_script s.medium.faults.items)

abbrev pub DiskRefused : SiteView → Geometry → ℕ → ℕ → Refusal → Type 0
DiskRefused s g in_flight held e =
    MountRefused s (has_no_items s) (is_geometry g) (is_disk_medium g s.medium.records.items s.medium.faults.items) in_flight held e

abbrev pub TapeRefused : SiteView → ℕ → ℕ → ℕ → Refusal → Type 0
TapeRefused s bytes in_flight held e =
    MountRefused s (has_no_records s) (is_size bytes) (is_tape_medium bytes s.medium.items.items s.medium.faults.items) in_flight held e

abbrev pub PrinterRefused : SiteView → ℕ → ℕ → ℕ → ℕ → Refusal → Type 0
PrinterRefused s lines pages in_flight held e =
    MountRefused s (has_no_records s && has_no_items s) (is_paper lines pages) (is_script s.medium.faults.items) in_flight held e
