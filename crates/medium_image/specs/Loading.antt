-- What loading an image answers (profile).
use Rattle.std.specs.Prelude.{◌≡◌, ℕ, Bool, true, false, List, take, codes, Option, Result, Ok, Err, IfSome}
use Rattle.std.specs.Str.{bytes_eq}
use Rattle.tape_unit.specs.Reel.{longest_reel}
use Rattle.aws_tape.specs.Reading.{Loads as LoadsTape}
use Rattle.ckd_image.specs.Loading.{FailsImage, IsFault, Loaded}
use Rattle.aws_tape.specs.declared.fault.AwsFault.TheVariants as tape_fault
use Rattle.ckd_image.specs.declared.fault.CkdError.{CkdError}
use Rattle.ckd_image.specs.declared.fault.CkdFault.TheVariants as disk_fault
use Rattle.ckd_image.specs.declared.kept.DiskImage.{DiskImage}
use Rattle.medium_image.specs.declared.image.Image.{Image}
use Rattle.medium_image.specs.declared.image.Image.TheVariants.{Disk, Tape}
use Rattle.medium_image.specs.declared.image.ImageError.{ImageError}
use Rattle.medium_image.specs.declared.image.ImageError.TheVariants as error

-- the image of a disk begins with `CKD_`, and that of a tape does not
abbrev pub begins_as_disk : List ℕ → Bool
begins_as_disk bytes = bytes_eq (take 4 bytes) (codes "CKD_")

-- the bytes of a reader, if they are known, are the image of a disk, or of a tape
abbrev pub AreOfKind : Bool → Option (List ℕ) → Type 0
AreOfKind disk known = IfSome known (λ bytes. begins_as_disk bytes ≡ disk)

-- an image of a disk is all bytes of a reader, or these break a rule; `new` is what is left of them then
abbrev pub LoadsDisk : Option (List ℕ) → Result DiskImage CkdError → Type 0
LoadsDisk old (Ok image) = (new : Option (List ℕ)) × Loaded old new image
LoadsDisk old (Err e) = IsFault e.fault → (new : Option (List ℕ)) × FailsImage old new e

-- WHAT LOADING ANSWERS: an image of the kind that the first four bytes say, or its first fault; a read may fail at any time
abbrev pub LoadsImage : Option (List ℕ) → Result Image ImageError → Type 0
LoadsImage old (Ok (Disk image)) = AreOfKind true old × LoadsDisk old (Ok image)
LoadsImage old (Ok (Tape image)) = AreOfKind false old × LoadsTape longest_reel old (Ok image)
LoadsImage old (Err (error.Disk e)) = AreOfKind true old × LoadsDisk old (Err e)
LoadsImage old (Err (error.Tape e)) = AreOfKind false old × LoadsTape longest_reel old (Err e)
LoadsImage old (Err error.Unreadable) = Unit {0}

-- memory ran out
abbrev pub RunsOut : ImageError → Type 0
RunsOut (error.Disk e) = e.fault ≡ disk_fault.NoMemory
RunsOut (error.Tape e) = e.fault ≡ tape_fault.NoMemory
RunsOut error.Unreadable = ⊥
