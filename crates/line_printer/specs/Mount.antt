-- Which printers can be mounted, and their opening state (profile).
use Rattle.std.specs.Prelude.{◌≡◌, ℕ, Bool, true, false, nat_le, ◌&&◌, List, [], Result, Ok, Err}
use Rattle.device_port.specs.declared.device.MountError.{MountError}
use Rattle.device_port.specs.declared.device.MountError.TheVariants.{BadGeometry, BadMedium, NoMemory}
use Rattle.device_port.specs.declared.faults.Fault.{Fault}
use Rattle.device_port.specs.Faults.{is_script}
use Rattle.line_printer.specs.Paper.{first_line}
use Rattle.line_printer.specs.Printer.{PrinterState}

-- PAPER: 1 to 100,000 lines in the list, and 1 to 10,000 pages
abbrev pub is_paper : ℕ → ℕ → Bool
is_paper lines pages = nat_le 1 lines && nat_le lines 100_000 && nat_le 1 pages && nat_le pages 10_000

-- THE OPENING STATE: nothing is printed, and the paper is at line 1 of page 1
abbrev pub opening : ℕ → ℕ → List Fault → PrinterState
opening lines pages faults = record {
  most = lines;
  pages = pages;
  printed = [];
  at = first_line;
  ordinals = record { script = faults; done = 0 };
}

-- WHAT MOUNTING ANSWERS: the printer, or the first reason that holds
abbrev pub Mounts : ℕ → ℕ → List Fault → Result PrinterState MountError → Type 0
Mounts lines pages faults (Ok printer) = (is_paper lines pages ≡ true) × (is_script faults ≡ true) × (printer ≡ opening lines pages faults)
Mounts lines pages faults (Err BadGeometry) = is_paper lines pages ≡ false
Mounts lines pages faults (Err BadMedium) = (is_paper lines pages ≡ true) × (is_script faults ≡ false)
Mounts lines pages faults (Err NoMemory) = (is_paper lines pages ≡ true) × (is_script faults ≡ true)
