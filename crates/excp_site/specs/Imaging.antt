-- UNITS FROM IMAGES, and their media as images (profile).
use Rattle.std.specs.Prelude.{◌≡◌, ◌≢◌, ◌≤◌, ◌<◌, ◌⊎◌, ℕ, Some, Option, List, [], Ok, Err, length, true, false}
use Rattle.device_port.specs.Faults.{is_script}
use Rattle.ckd_disk.specs.Volume.{mounted_volume}
use Rattle.ckd_image.specs.Loading.{FailsImage, IsFault, Loaded}
use Rattle.ckd_image.specs.declared.fault.CkdError.{CkdError}
use Rattle.ckd_image.specs.declared.kept.DiskImage.{DiskImage}
use Rattle.tape_unit.specs.Mount.{wound}
use Rattle.tape_unit.specs.Recording.{is_recordable}
use Rattle.aws_tape.specs.Reading.{IsOfImage, read_image}
use Rattle.aws_tape.specs.declared.fault.AwsError.{AwsError}
use Rattle.aws_tape.specs.declared.image.TapeImage.{TapeImage}
use Rattle.any_device.specs.declared.device.AnyDevice.{AnyDevice}
use Rattle.any_device.specs.declared.device.AnyDevice.TheVariants as device
use Rattle.medium_image.specs.Saving.{IsNoModel, IsSameImage, KeepsItems, LoadsAgain, SavesMedium}
use Rattle.medium_image.specs.declared.image.Kept.{Kept}
use Rattle.medium_image.specs.declared.image.Kept.TheVariants as kept
use Rattle.unit_world.specs.Sites.{OnPart}
use Rattle.excp_site.specs.Looks.{device_now}
use Rattle.excp_site.specs.Mounting.{AddRefused, CanAdd, has_no_items, has_no_records}
use Rattle.excp_site.specs.Sites.{SiteView, AddsUnit, HasPart, beside_of}
use Rattle.excp_site.specs.declared.refusal.Refusal.{Refusal}
use Rattle.excp_site.specs.declared.refusal.Refusal.TheVariants.{NoMemory, BadGeometry, BadImage, BadMedium, NoImage, NoUnit}

-- the bytes are an image of a disk, and nothing more
abbrev pub IsCkd : List ℕ → DiskImage → Type 0
IsCkd bytes image = (left : Option (List ℕ)) × Loaded (Some bytes) left image

-- A DISK FROM AN IMAGE, which is all of these bytes, with the faults that were put
pub record MountsCkd (old : SiteView) (bytes : List ℕ) (in_flight held unit : ℕ) (new : SiteView) : Type 0 where
  pub image : DiskImage
  pub loaded : IsCkd bytes image
  pub alone : (has_no_records old ≡ true) × (has_no_items old ≡ true)
  pub script : is_script old.medium.faults.items ≡ true
  pub adds : AddsUnit old (device.Disk (mounted_volume image.volume old.medium.faults.items)) (Some (kept.Disk image.kept)) in_flight held unit new

-- A TAPE of this size FROM AN IMAGE
pub record MountsAws (old : SiteView) (bytes : List ℕ) (size in_flight held unit : ℕ) (new : SiteView) : Type 0 where
  pub image : TapeImage
  pub loaded : read_image size bytes ≡ Ok image
  pub size_is : is_recordable size ≡ true
  pub alone : (has_no_records old ≡ true) × (has_no_items old ≡ true)
  pub script : is_script old.medium.faults.items ≡ true
  pub adds : AddsUnit old (device.Tape (wound image.tape old.medium.faults.items)) (Some (kept.Tape image.layout)) in_flight held unit new

-- the bytes break a rule of the format
abbrev pub BreaksCkd : List ℕ → Type 0
BreaksCkd bytes = (e : CkdError) × (left : Option (List ℕ)) × IsFault e.fault × FailsImage (Some bytes) left e

abbrev pub BreaksAws : ℕ → List ℕ → Type 0
BreaksAws size bytes = (e : AwsError) × IsOfImage e.fault × (read_image size bytes ≡ Err e)

-- why an image is not loaded: it breaks a rule, or memory ran out
abbrev pub LoadRefused : Type 0 → Refusal → Type 0
LoadRefused Breaks BadImage = Breaks
LoadRefused Breaks NoMemory = Unit {0}
LoadRefused Breaks _ = ⊥

-- what a mount leaves that is refused: the rule that the image breaks, in words
abbrev pub LeavesMade : SiteView → SiteView → Refusal → Type 0
LeavesMade old new e = (new ≡ record old { made = new.made }) × (e ≢ BadImage → new ≡ old)

-- nothing was put but faults
abbrev pub CanLoad : SiteView → ℕ → ℕ → Type 0
CanLoad s in_flight held = CanAdd s in_flight held × (has_no_records s ≡ true) × (has_no_items s ≡ true)

-- what was put is none for an image: a record, an item, or faults that no device meets; the image is tested before these
abbrev pub PutsTooMuch : SiteView → ℕ → ℕ → Type 0 → Type 0
PutsTooMuch s in_flight held IsImage =
    (CanAdd s in_flight held × ((has_no_records s ≡ false) ⊎ (has_no_items s ≡ false)))
    ⊎ (CanLoad s in_flight held × IsImage × (is_script s.medium.faults.items ≡ false))

-- WHY NO UNIT IS ADDED
abbrev pub CkdRefused : SiteView → List ℕ → ℕ → ℕ → Refusal → Type 0
CkdRefused s bytes in_flight held BadMedium = PutsTooMuch s in_flight held ((image : DiskImage) × IsCkd bytes image)
CkdRefused s bytes in_flight held BadImage = CanLoad s in_flight held × BreaksCkd bytes
CkdRefused s bytes in_flight held NoMemory = CanLoad s in_flight held
CkdRefused s bytes in_flight held e = AddRefused s in_flight held e

abbrev pub AwsRefused : SiteView → List ℕ → ℕ → ℕ → ℕ → Refusal → Type 0
AwsRefused s bytes size in_flight held BadMedium =
    PutsTooMuch s in_flight held ((is_recordable size ≡ true) × ((image : TapeImage) × (read_image size bytes ≡ Ok image)))
AwsRefused s bytes size in_flight held BadGeometry = CanLoad s in_flight held × (is_recordable size ≡ false)
AwsRefused s bytes size in_flight held BadImage = CanLoad s in_flight held × (is_recordable size ≡ true) × BreaksAws size bytes
AwsRefused s bytes size in_flight held NoMemory = CanLoad s in_flight held × (is_recordable size ≡ true)
AwsRefused s bytes size in_flight held e = AddRefused s in_flight held e

-- AN IMAGE OF A MEDIUM as it is now: what was made of a tape loads again, and a medium that was not written has the image that it came
-- from
pub record IsImageOf (beside : Option Kept) (mounted now : AnyDevice) (made : List ℕ) : Type 0 where
  pub saved : SavesMedium (Some []) (Some made) beside mounted now
  pub read_back : LoadsAgain beside mounted now
  pub same : (image : List ℕ) → IsSameImage beside mounted now image → made ≡ image
  pub untouched : KeepsItems beside mounted now

-- THE MEDIUM OF A UNIT IS MADE as an image, or the paper of a printer as text
pub record MakesImage (old : SiteView) (unit : ℕ) (new : SiteView) : Type 0 where
  pub there : unit < length old.plain.units
  pub image : OnPart old.plain unit (λ p. IsImageOf (beside_of old unit) p.book.mounted (device_now p.book) new.made)
  pub rest : new ≡ record old { made = new.made }

-- no model of a disk is as this one, which came from no image
abbrev pub HasNoModel : Option Kept → AnyDevice → Type 0
HasNoModel beside now = (heads : ℕ) × (track_bytes : ℕ) × IsNoModel beside now heads track_bytes

-- WHY THERE IS NO IMAGE of a medium
abbrev pub NotImageOf : Option Kept → AnyDevice → Refusal → Type 0
NotImageOf beside now NoImage = HasNoModel beside now
NotImageOf beside now NoMemory = Unit {0}
NotImageOf beside now _ = ⊥

-- and of a unit
abbrev pub ImageRefused : SiteView → ℕ → Refusal → Type 0
ImageRefused s unit NoUnit = length s.plain.units ≤ unit
ImageRefused s unit NoImage = HasPart s.plain unit (λ p. HasNoModel (beside_of s unit) (device_now p.book))
ImageRefused s unit NoMemory = unit < length s.plain.units
ImageRefused s unit _ = ⊥
