-- The size of the device of a unit never changes, nor does its kind.
use Rattle.std.specs.Prelude.{◌≡◌, ℕ, List, ◌∷◌}
use Rattle.std.proofs.Common.{ap}
use Rattle.io_images.specs.declared.seek.Seek.{Seek}
use Rattle.device_port.specs.FixedSize.{KeepsSize}
use Rattle.ckd_disk.specs.DiskSize.{disk_size, disk_keeps_size}
use Rattle.tape_unit.specs.TapeSize.{tape_size, tape_keeps_size}
use Rattle.line_printer.specs.PrinterSize.{printer_size, printer_keeps_size}
use Rattle.any_device.specs.declared.device.AnyDevice.{AnyDevice}
use Rattle.any_device.specs.declared.device.AnyDevice.TheVariants.{Disk, Tape, Printer}
use Rattle.any_device.specs.Devices.{any_device, acted_on, prefixed}

-- THE SIZE OF A UNIT'S DEVICE: the number of its kind (0 disk, 1 tape, 2 printer), and then the size of the disk, tape or printer
abbrev pub any_size : AnyDevice → List ℕ
any_size (Disk d) = 0 ∷ disk_size d
any_size (Tape t) = 1 ∷ tape_size t
any_size (Printer p) = 2 ∷ printer_size p

act_keeps : (d : AnyDevice) (command : ℕ) (given : List ℕ) → any_size (acted_on d command given).device ≡ any_size d
act_keeps (Disk d) command given = ap (λ size. 0 ∷ size) (disk_keeps_size.after_act d command given)
act_keeps (Tape t) command given = ap (λ size. 1 ∷ size) (tape_keeps_size.after_act t command given)
act_keeps (Printer p) command given = ap (λ size. 2 ∷ size) (printer_keeps_size.after_act p command given)

prefix_keeps : (d : AnyDevice) (seek : Seek) (mask : ℕ) → any_size (prefixed d seek mask) ≡ any_size d
prefix_keeps (Disk d) seek mask = ap (λ size. 0 ∷ size) (disk_keeps_size.after_prefix d seek mask)
prefix_keeps (Tape t) seek mask = ap (λ size. 1 ∷ size) (tape_keeps_size.after_prefix t seek mask)
prefix_keeps (Printer p) seek mask = ap (λ size. 2 ∷ size) (printer_keeps_size.after_prefix p seek mask)

-- THE SIZE STAYS
pub any_keeps_size : KeepsSize any_device any_size
any_keeps_size = record { after_act = act_keeps; after_prefix = prefix_keeps }
