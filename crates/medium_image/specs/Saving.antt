-- What saving the medium of a unit writes (profile).
use Rattle.std.specs.Prelude.{◌≡◌, ℕ, ◌^◌, ◌-◌, min, List, [], Option, Some, None, Ok}
use Rattle.std.specs.Io.KnownBytes.{Appends, Keeps}
use Rattle.ckd_disk.specs.Disk.{DiskState, track_of}
use Rattle.ckd_disk.specs.Volume.{VolumeState}
use Rattle.ckd_image.specs.Header.{format_of}
use Rattle.ckd_image.specs.Image.{KeptState, IsImage, file_of}
use Rattle.ckd_image.specs.Saving.{format_on, image_on, volume_on, ForgetsWritten, IsAsRead}
use Rattle.ckd_image.specs.declared.format.Format.{Format}
use Rattle.tape_unit.specs.Tape.{TapeState}
use Rattle.aws_tape.specs.declared.layout.Part.{Part}
use Rattle.aws_tape.specs.Writing.{IsLoaded, IsReadBack, IsUntouched, common_parts, saved}
use Rattle.any_device.specs.declared.device.AnyDevice.{AnyDevice}
use Rattle.any_device.specs.declared.device.AnyDevice.TheVariants.{Disk, Printer, Tape}
use Rattle.medium_image.specs.declared.image.Kept.{Kept}
use Rattle.medium_image.specs.declared.image.Kept.TheVariants as kept
use Rattle.medium_image.specs.declared.saving.SaveError.{SaveError}
use Rattle.medium_image.specs.declared.saving.SaveError.TheVariants.{NoMemory, NoModel, NotWritten}
use Rattle.medium_image.specs.Paper.{paper_text}

-- in which chunks the blocks of a tape were, if it came from an image
abbrev pub layout_of : Option Kept → List Part
layout_of None = []
layout_of (Some (kept.Disk beside)) = []
layout_of (Some (kept.Tape layout)) = layout

-- a new image of a disk has a header with its heads and the bytes of its first track, and nothing more beside its records
pub record IsNewImage (disk : DiskState) (beside : KeptState) : Type 0 where
  pub header : format_of beside.header ≡ Ok (format_on disk)
  pub tracks : beside.tracks ≡ []

-- what the image of a disk has beside its records: what was kept of the image that it came from, or what a new image has
abbrev pub HasBeside : Option Kept → DiskState → KeptState → Type 0
HasBeside None disk beside = IsNewImage disk beside
HasBeside (Some (kept.Disk old)) disk beside = beside ≡ old
HasBeside (Some (kept.Tape layout)) disk beside = IsNewImage disk beside

-- the image of a disk is written, and loads again as the volume that the disk is now
abbrev pub SavesDisk : Option (List ℕ) → Option (List ℕ) → Option Kept → DiskState → DiskState → Type 0
SavesDisk old new of_image mounted now =
    (beside : KeptState) × HasBeside of_image now beside × Appends old new (image_on beside mounted now)
    × IsImage (image_on beside mounted now) (volume_on now)

-- the image of a tape is written
abbrev pub SavesTape : Option (List ℕ) → Option (List ℕ) → Option Kept → TapeState → TapeState → Type 0
SavesTape old new of_image mounted now = Appends old new (saved (layout_of of_image) mounted.reel.items now.reel.items)

-- WHAT IS WRITTEN of a unit: its device as it was mounted, and as it is now
abbrev pub SavesMedium : Option (List ℕ) → Option (List ℕ) → Option Kept → AnyDevice → AnyDevice → Type 0
SavesMedium old new of_image (Disk mounted) (Disk now) = SavesDisk old new of_image mounted now
SavesMedium old new of_image (Disk mounted) (Tape now) = ⊥
SavesMedium old new of_image (Disk mounted) (Printer now) = Appends old new (paper_text now)
SavesMedium old new of_image (Tape mounted) (Disk now) = ⊥
SavesMedium old new of_image (Tape mounted) (Tape now) = SavesTape old new of_image mounted now
SavesMedium old new of_image (Tape mounted) (Printer now) = Appends old new (paper_text now)
SavesMedium old new of_image (Printer mounted) (Disk now) = ⊥
SavesMedium old new of_image (Printer mounted) (Tape now) = ⊥
SavesMedium old new of_image (Printer mounted) (Printer now) = Appends old new (paper_text now)

-- WHAT WAS WRITTEN of a tape loads again, with the items that it has now; `SavesDisk` says so of a disk
abbrev pub LoadsAgain : Option Kept → AnyDevice → AnyDevice → Type 0
LoadsAgain of_image (Disk mounted) now = Unit {0}
LoadsAgain of_image (Tape mounted) (Disk now) = Unit {0}
LoadsAgain of_image (Tape mounted) (Tape now) =
    IsReadBack now.reel.items (saved (layout_of of_image) mounted.reel.items now.reel.items)
LoadsAgain of_image (Tape mounted) (Printer now) = Unit {0}
LoadsAgain of_image (Printer mounted) now = Unit {0}

-- the bytes are the image that a disk came from, and the disk has the tracks of this image
pub record IsSameDisk (beside : KeptState) (mounted now : DiskState) (image : List ℕ) : Type 0 where
  pub format : Format
  pub volume : VolumeState
  pub as_read : IsAsRead format beside volume mounted now
  pub file : image ≡ file_of format beside volume.tracks

-- the bytes are the image that a tape came from, and the tape has the items of this image
pub record IsSameTape (layout : List Part) (mounted now : TapeState) (image : List ℕ) : Type 0 where
  pub loaded : IsLoaded layout mounted.reel.items image
  pub items : now.reel.items ≡ mounted.reel.items

-- THE IMAGE OF A MEDIUM THAT WAS NOT WRITTEN: the one that it came from
abbrev pub IsSameImage : Option Kept → AnyDevice → AnyDevice → List ℕ → Type 0
IsSameImage (Some (kept.Disk beside)) (Disk mounted) (Disk now) image = IsSameDisk beside mounted now image
IsSameImage (Some (kept.Tape layout)) (Tape mounted) (Tape now) image = IsSameTape layout mounted now image
IsSameImage _ _ _ image = ⊥

-- THE ITEMS BEFORE A WRITE keep the bytes that they have in the image of the tape
abbrev pub KeepsItems : Option Kept → AnyDevice → AnyDevice → Type 0
KeepsItems of_image (Tape mounted) (Tape now) =
    IsUntouched (layout_of of_image) mounted.reel.items now.reel.items
    (saved (layout_of of_image) mounted.reel.items now.reel.items)
KeepsItems _ _ _ = Unit {0}

-- what is kept of a tape as it is: the chunks of what it has in common with the mounted one, so that its image stays the same if this
-- is the mounted tape from here on
pub record ForgetsChunks (old : List Part) (mounted now : TapeState) (new : List Part) : Type 0 where
  pub parts : new ≡ common_parts old mounted.reel.items now.reel.items
  pub image : saved new now.reel.items now.reel.items ≡ saved old mounted.reel.items now.reel.items

-- WHAT WAS WRITTEN IS FORGOTTEN: what the file of an image has beside the medium as it is now, so that its image stays the same
abbrev pub Forgets : Kept → AnyDevice → AnyDevice → Kept → Type 0
Forgets (kept.Disk old) (Disk mounted) (Disk now) (kept.Disk new) = ForgetsWritten old mounted now new
Forgets (kept.Tape old) (Tape mounted) (Tape now) (kept.Tape new) = ForgetsChunks old mounted now new
Forgets old _ _ new = new ≡ old

-- a disk that no model is: it came from no image, and has these heads and these bytes on its first track
abbrev pub IsNoModel : Option Kept → AnyDevice → ℕ → ℕ → Type 0
IsNoModel of_image (Tape now) heads track_bytes = ⊥
IsNoModel of_image (Printer now) heads track_bytes = ⊥
IsNoModel (Some (kept.Disk beside)) (Disk now) heads track_bytes = ⊥
IsNoModel _ (Disk now) heads track_bytes = (heads ≡ now.heads) × (track_bytes ≡ min (track_of now.tracks 0).size (2 ^ 32 - 1))

-- memory ran out, or a write failed
abbrev pub FailsWriting : SaveError → Type 0
FailsWriting (NoModel heads track_bytes) = ⊥
FailsWriting (NotWritten kind) = Unit {0}
FailsWriting NoMemory = Unit {0}

-- WHY NOTHING IS WRITTEN if a disk is that of no model
abbrev pub FailsSaving : Option (List ℕ) → Option (List ℕ) → Option Kept → AnyDevice → SaveError → Type 0
FailsSaving old new of_image now (NoModel heads track_bytes) = IsNoModel of_image now heads track_bytes × Keeps old new
FailsSaving old new of_image now (NotWritten kind) = Unit {0}
FailsSaving old new of_image now NoMemory = Unit {0}
