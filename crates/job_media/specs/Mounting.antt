-- THE DEVICE OF A UNIT from an image, and what saving needs beside it; or why the lines of the unit do not fit the image
-- (profile).
use Rattle.std.specs.Prelude.{◌≡◌, ℕ, nat_le, ◌==◌, Bool, not, ◌&&◌, List, [], ◌∷◌, length, map, Option, Some, None, Result}
use Rattle.std.specs.Prelude.{Ok, Err, IsOk, if◌then◌else◌}
use Rattle.device_port.specs.Faults.{is_script}
use Rattle.ckd_disk.specs.declared.mount.Geometry.{Geometry}
use Rattle.ckd_disk.specs.declared.mount.InitialRecord.{InitialRecord}
use Rattle.ckd_disk.specs.Volume.{is_whole, mounted_volume}
use Rattle.tape_unit.specs.Mount.{wound}
use Rattle.tape_unit.specs.declared.mount.InitialItem.{InitialItem}
use Rattle.tape_unit.specs.Recording.{is_recordable, resized}
use Rattle.tape_unit.specs.Reel.{bytes_of}
use Rattle.any_device.specs.declared.device.AnyDevice.{AnyDevice}
use Rattle.any_device.specs.declared.device.AnyDevice.TheVariants as device
use Rattle.aws_tape.specs.declared.image.TapeImage.{TapeImage}
use Rattle.ckd_image.specs.declared.kept.DiskImage.{DiskImage}
use Rattle.job_script.specs.declared.fault.FaultName.TheVariants as names
use Rattle.job_script.specs.declared.fault.JobError.{JobError}
use Rattle.job_script.specs.declared.fault.JobError.TheVariants as errors
use Rattle.job_script.specs.declared.set_up.InitialMedium.{InitialMedium}
use Rattle.job_script.specs.declared.set_up.InitialMedium.TheVariants as medium
use Rattle.job_script.specs.declared.set_up.UnitSetup.{UnitSetup}
use Rattle.medium_image.specs.declared.image.Image.{Image}
use Rattle.medium_image.specs.declared.image.Image.TheVariants.{Disk, Tape}
use Rattle.medium_image.specs.declared.image.Kept.{Kept}
use Rattle.medium_image.specs.declared.image.Kept.TheVariants as kept
use Rattle.job_media.specs.declared.mounting.MediaError.{MediaError}
use Rattle.job_media.specs.declared.mounting.MediaError.TheVariants.{Unit as AtUnit, NoMemory}
use Rattle.aws_tape.specs.Steps.{◌>>=◌}
use Rattle.job_media.specs.declared.units.MountedImages.{MountedImages}
use Rattle.medium_image.specs.Images.{geometry_of}

-- a device with its medium, and what its image has beside it
abbrev pub Mounted : Type 0
Mounted = AnyDevice × Kept

-- the lines of a unit do not fit its image
abbrev pub unfit : UnitSetup → Result Mounted MediaError
unfit unit = Err (AtUnit unit.line)

-- two geometries are the same
abbrev pub is_same_geometry : Geometry → Geometry → Bool
is_same_geometry a b = (a.cylinders == b.cylinders) && (a.heads == b.heads) && (a.track_bytes == b.track_bytes)

-- a disk without records, of the geometry of the image, gets its tracks, if they are whole cylinders of it
abbrev pub disk_from : DiskImage → Geometry → List InitialRecord → UnitSetup → Result Mounted MediaError
disk_from image declared records unit =
    if not (length records == 0) then unfit unit
    else if not (is_same_geometry declared (geometry_of image.volume)) then unfit unit
    else if not (is_whole image.volume && is_script unit.faults.items) then unfit unit
    else Ok (device.Disk (mounted_volume image.volume unit.faults.items), kept.Disk image.kept)

-- a tape without items, of this many bytes, gets the items of the image, if it has room for them
abbrev pub tape_from : TapeImage → ℕ → List InitialItem → UnitSetup → Result Mounted MediaError
tape_from image bytes items unit =
    if not (length items == 0) then unfit unit
    else if not (is_recordable bytes) then unfit unit
    else if not (nat_le (bytes_of image.tape.items) bytes) then unfit unit
    else if not (is_script unit.faults.items) then unfit unit
    else Ok (device.Tape (wound (resized image.tape bytes) unit.faults.items), kept.Tape image.layout)

-- a disk unit gets the image of a disk, and no other
abbrev pub for_disk : DiskImage → InitialMedium → UnitSetup → Result Mounted MediaError
for_disk image (medium.Disk declared records) unit = disk_from image declared records.items unit
for_disk image (medium.Tape bytes items) unit = unfit unit
for_disk image (medium.Printer lines pages) unit = unfit unit

-- a tape unit gets the image of a tape, and no other
abbrev pub for_tape : TapeImage → InitialMedium → UnitSetup → Result Mounted MediaError
for_tape image (medium.Disk declared records) unit = unfit unit
for_tape image (medium.Tape bytes items) unit = tape_from image bytes items.items unit
for_tape image (medium.Printer lines pages) unit = unfit unit

-- WHAT A UNIT GETS FROM AN IMAGE, which is of its kind and of its size; or that its lines do not fit the image
abbrev pub mounted_from : Image → UnitSetup → Result Mounted MediaError
mounted_from (Disk image) unit = for_disk image unit.medium unit
mounted_from (Tape image) unit = for_tape image unit.medium unit

-- WHAT A CALL ANSWERS: what is given, or that memory ran out for it
abbrev pub AnswersMounting : {A : Type 0} → Result A MediaError → Result A MediaError → Type 0
AnswersMounting given (Ok x) = given ≡ Ok x
AnswersMounting given (Err (AtUnit line)) = given ≡ Err (AtUnit line)
AnswersMounting given (Err NoMemory) = IsOk given

-- the fault of a script's line: its medium
abbrev pub as_job_error : MediaError → JobError
as_job_error (AtUnit line) = errors.Line line names.Medium
as_job_error NoMemory = errors.NoMemory

-- ---- the images of all units

-- what a unit has: a device from an image, and what is kept of the image; or neither
abbrev pub PerUnit : Type 0
PerUnit = Option AnyDevice × Option Kept

-- a device and what is kept
abbrev pub each_some : Result Mounted MediaError → Result PerUnit MediaError
each_some (Ok given) = Ok (Some given.0, Some given.1)
each_some (Err error) = Err error

-- a unit without an image has neither
abbrev pub unit_has : UnitSetup → Option Image → Result PerUnit MediaError
unit_has unit None = Ok (None, None)
unit_has unit (Some image) = each_some (mounted_from image unit)

-- WHAT UNITS HAVE, each with its image, in the order of their numbers; or the error of the first that is unfit
unfoldable pub units_have : List (UnitSetup × Option Image) → Result (List PerUnit) MediaError
units_have [] = Ok []
units_have (first ∷ others) = do
  own ← unit_has first.0 first.1
  rest ← units_have others
  Ok (own ∷ rest)

-- two lists of what units have: their devices, and what is kept
pub record AreListed (units : List PerUnit) (mounted : MountedImages) : Type 0 where
  pub devices : mounted.devices.items ≡ map (λ (unit : PerUnit). unit.0) units
  pub kept : mounted.kept.items ≡ map (λ (unit : PerUnit). unit.1) units

-- WHAT MOUNTING ALL IMAGES ANSWERS; memory may run out at any time
abbrev pub MountsAll : Result (List PerUnit) MediaError → Result MountedImages MediaError → Type 0
MountsAll given (Ok mounted) = (units : List PerUnit) × (given ≡ Ok units) × AreListed units mounted
MountsAll given (Err (AtUnit line)) = given ≡ Err (AtUnit line)
MountsAll given (Err NoMemory) = Unit {0}
