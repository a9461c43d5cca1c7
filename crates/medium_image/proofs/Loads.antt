-- An image is loaded from the bytes that were read first, and those that the reader has left.
use Rattle.std.proofs.Common.{◌≡◌, ℕ, ◌<◌, ◌≤◌, Bool, List, [], ◌++◌, length, take, Option, Some, None, Result, Ok, Err}
use Rattle.std.proofs.Common.{sym, ap, subst, ◌∙◌, inl, inr, append-nil, arith}
use Rattle.std.proofs.lemmas.List.{length-take-le, take-append-le, take_all}
use Rattle.std.proofs.Math.Nat.{eq-or-lt_of_le}
use Rattle.std.specs.Fmt.{option_append}
use Rattle.std.specs.Str.{bytes_eq}
use Rattle.std.specs.Prelude.{codes}
use Rattle.tape_unit.specs.Reel.{longest_reel}
use Rattle.image_source.specs.Filled.{Fills}
use Rattle.aws_tape.specs.Reading.{Loads as LoadsTape}
use Rattle.aws_tape.specs.declared.fault.AwsError.{AwsError}
use Rattle.aws_tape.specs.declared.image.TapeImage.{TapeImage}
use Rattle.ckd_image.specs.declared.fault.CkdError.{CkdError}
use Rattle.ckd_image.specs.declared.kept.DiskImage.{DiskImage}
use Rattle.ckd_image.specs.Loading.{FailsImage, IsFault, Loaded}
use Rattle.medium_image.specs.Loading.{AreOfKind, LoadsDisk, begins_as_disk}

-- four bytes, or all that there are, say whether the image is one of a disk
front : (left first : List ℕ) (count : ℕ) → length first ≡ 4 → count ≤ length first → (count < length first → left ≡ [])
    → take 4 (take count first ++ left) ≡ take count first
front left first count len within end =
    let start = take count first in
    let long : length start ≡ count = length-take-le count first within in
    elim (eq-or-lt_of_le within) [
      | inl e ↦
          take-append-le 4 start left (omega (arith, long, e, len)) ∙ take_all 4 start (omega (arith, long, len, within))
      | inr lt ↦
          ap (λ (l : List ℕ). take 4 (start ++ l)) (end lt)
          ∙ ap (take 4) (append-nil start)
          ∙ take_all 4 start (omega (arith, long, len, within))
    ]

pub are_of : (old new : Option (List ℕ)) (first : List ℕ) (count : ℕ) (disk : Bool) → length first ≡ 4 → Fills old new first count
    → bytes_eq (take count first) (codes "CKD_") ≡ disk → AreOfKind disk old
are_of None new first count disk len f is = tt
are_of (Some image) None first count disk len f is = absurd f.consumed
are_of (Some image) (Some left) first count disk len f is =
    ap begins_as_disk f.consumed
    ∙ ap (λ (l : List ℕ). bytes_eq l (codes "CKD_")) (front left first count len f.within f.end)
    ∙ is

-- a tape is loaded from the bytes that were read first, and then those left
pub loads_tape : (old new known : Option (List ℕ)) (first : List ℕ) (count : ℕ) (result : Result TapeImage AwsError)
    → Fills old new first count → known ≡ option_append (Some (take count first)) new → LoadsTape longest_reel known result
    → LoadsTape longest_reel old result
loads_tape None new known first count result f is loads = tt
loads_tape (Some image) None known first count result f is loads = absurd f.consumed
loads_tape (Some image) (Some left) known first count result f is loads =
    subst (λ (bytes : Option (List ℕ)). LoadsTape longest_reel bytes result) (is ∙ ap Some (sym f.consumed)) loads

-- so is a disk
pub loads_disk : (old new known end : Option (List ℕ)) (first : List ℕ) (count : ℕ) (image : DiskImage) → Fills old new first count
    → known ≡ option_append (Some (take count first)) new → Loaded known end image → LoadsDisk old (Ok image)
loads_disk None new known end first count image f is loaded = (
  None,
  record { format = loaded.format; valid = loaded.valid; read = tt; end = tt },
)
loads_disk (Some all) None known end first count image f is loaded = absurd f.consumed
loads_disk (Some all) (Some left) known end first count image f is loaded =
    (end, subst (λ (bytes : Option (List ℕ)). Loaded bytes end image) (is ∙ ap Some (sym f.consumed)) loaded)

-- and so is it refused
pub fails_disk : (old new known end : Option (List ℕ)) (first : List ℕ) (count : ℕ) (e : CkdError) → Fills old new first count
    → known ≡ option_append (Some (take count first)) new → (IsFault e.fault → FailsImage known end e) → LoadsDisk old (Err e)
fails_disk None new known end first count e f is fails = λ (given : IsFault e.fault).
    let r = fails given in (end, (r.0, tt, r.2))
fails_disk (Some all) None known end first count e f is fails = absurd f.consumed
fails_disk (Some all) (Some left) known end first count e f is fails = λ (given : IsFault e.fault).
    (end, subst (λ (bytes : Option (List ℕ)). FailsImage bytes end e) (is ∙ ap Some (sym f.consumed)) (fails given))
