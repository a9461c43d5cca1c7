-- The images of units are mounted one after another.
use Rattle.std.proofs.Common.{◌≡◌, ◌⊎◌, inl, inr, List, [], ◌∷◌, ◌++◌, length, Option, Result, Ok, Err}
use Rattle.std.proofs.Common.{refl, sym, ap, ◌∙◌, append_assoc, append-nil, arith}
use Rattle.std.specs.List.{zip}
use Rattle.std.proofs.lemmas.List.{map-append}
use Rattle.aws_tape.specs.Steps.{◌>>=◌}
use Rattle.any_device.specs.declared.device.AnyDevice.{AnyDevice}
use Rattle.job_script.specs.declared.set_up.UnitSetup.{UnitSetup}
use Rattle.medium_image.specs.declared.image.Image.{Image}
use Rattle.medium_image.specs.declared.image.Kept.{Kept}
use Rattle.job_media.specs.declared.mounting.MediaError.{MediaError}
use Rattle.job_media.specs.declared.mounting.MediaError.TheVariants.{Unit as AtUnit, NoMemory}
use Rattle.job_media.specs.declared.units.MountedImages.{MountedImages}
use Rattle.job_media.specs.Mounting.{AnswersMounting, AreListed, MountsAll, PerUnit, unit_has, units_have}

-- what these units have, and then what those after them have
pub after : List PerUnit → Result (List PerUnit) MediaError → Result (List PerUnit) MediaError
after before (Ok others) = Ok (before ++ others)
after before (Err error) = Err error

-- the units before `left` have what is mounted
pub record IsSoFar (all left : List (UnitSetup × Option Image)) (mounted : MountedImages) : Type 0 where
  pub before : List PerUnit
  pub at : AreListed before mounted
  pub so_far : units_have all ≡ after before (units_have left)

after-nil : (r : Result (List PerUnit) MediaError) → after [] r ≡ r
unfolding after
after-nil (Ok others) = refl
after-nil (Err error) = refl

-- no unit so far
pub none_so_far : (units first : List UnitSetup) (images second : List (Option Image)) (mounted : MountedImages)
    → first ≡ units → second ≡ images → mounted.devices.items ≡ [] → mounted.kept.items ≡ []
    → IsSoFar (zip units images) (zip first second) mounted
none_so_far units first images second mounted is is' devices kept = record {
  before = [];
  at = record { devices = devices; kept = kept };
  so_far = sym (
      after-nil (units_have (zip first second))
      ∙ ap (λ (l : List UnitSetup). units_have (zip l second)) is
      ∙ ap (λ (l : List (Option Image)). units_have (zip units l)) is'
      );
}

after-more : (before : List PerUnit) (own : PerUnit) (r : Result (List PerUnit) MediaError)
    → after before (r >>= λ others. Ok (own ∷ others)) ≡ after (before ++ own ∷ []) r
unfolding after
after-more before own (Ok others) = ap Ok (sym (append_assoc before (own ∷ []) others))
after-more before own (Err error) = refl

first_unit : (first : UnitSetup × Option Image) (left : List (UnitSetup × Option Image)) (own : PerUnit)
    → unit_has first.0 first.1 ≡ Ok own → units_have (first ∷ left) ≡ (units_have left >>= λ others. Ok (own ∷ others))
unfolding units_have
first_unit first left own is =
    ap (λ (r : Result PerUnit MediaError). r >>= λ p. units_have left >>= λ others. Ok (p ∷ others)) is

zip-next : (first units : List UnitSetup) (second images : List (Option Image)) (unit : UnitSetup) (image : Option Image)
    → first ≡ unit ∷ units → second ≡ image ∷ images → zip first second ≡ (unit, image) ∷ zip units images
zip-next first units second images unit image is is' =
    ap (λ (l : List UnitSetup). zip l second) is ∙ ap (λ (l : List (Option Image)). zip (unit ∷ units) l) is'

-- one unit more
pub one_more : (all : List (UnitSetup × Option Image)) (first units : List UnitSetup) (second images : List (Option Image))
    (unit : UnitSetup) (image : Option Image) (own : PerUnit) (old new : MountedImages) → IsSoFar all (zip first second) old
    → first ≡ unit ∷ units → second ≡ image ∷ images → unit_has unit image ≡ Ok own
    → new.devices.items ≡ old.devices.items ++ own.0 ∷ [] → new.kept.items ≡ old.kept.items ++ own.1 ∷ []
    → IsSoFar all (zip units images) new
one_more all first units second images unit image own old new s is is' given devices kept = record {
  before = s.before ++ own ∷ [];
  at = record {
    devices = devices ∙ ap (λ (l : List (Option AnyDevice)). l ++ own.0 ∷ []) s.at.devices
        ∙ sym (map-append (λ (p : PerUnit). p.0) s.before (own ∷ []));
    kept = kept ∙ ap (λ (l : List (Option Kept)). l ++ own.1 ∷ []) s.at.kept
        ∙ sym (map-append (λ (p : PerUnit). p.1) s.before (own ∷ []));
  };
  so_far = s.so_far
      ∙ ap (λ (l : List (UnitSetup × Option Image)). after s.before (units_have l)) (zip-next first units second images unit image is is')
      ∙ ap (after s.before) (first_unit (unit, image) (zip units images) own given)
      ∙ after-more s.before own (units_have (zip units images));
}

first_refused : (all left : List (UnitSetup × Option Image)) (first : UnitSetup × Option Image) (before : List PerUnit)
    (error : MediaError) → units_have all ≡ after before (units_have (first ∷ left)) → unit_has first.0 first.1 ≡ Err error
    → units_have all ≡ Err error
unfolding after units_have
first_refused all left first before error so_far is =
    so_far ∙ ap (λ (r : Result PerUnit MediaError). after before (r >>= λ p. units_have left >>= λ others. Ok (p ∷ others))) is

-- the unit is refused, or memory ran out
pub refused_next : (all : List (UnitSetup × Option Image)) (first units : List UnitSetup) (second images : List (Option Image))
    (unit : UnitSetup) (image : Option Image) (mounted : MountedImages) (error : MediaError) → IsSoFar all (zip first second) mounted
    → first ≡ unit ∷ units → second ≡ image ∷ images → AnswersMounting (unit_has unit image) (Err error)
    → MountsAll (units_have all) (Err error)
refused_next all first units second images unit image mounted (AtUnit line) s is is' answer =
    first_refused all (zip units images) (unit, image) s.before (AtUnit line)
    (s.so_far
    ∙ ap (λ (l : List (UnitSetup × Option Image)). after s.before (units_have l)) (zip-next first units second images unit image is is'))
    answer
refused_next all first units second images unit image mounted NoMemory s is is' answer = tt

zip-nil : (first : List UnitSetup) (second : List (Option Image)) → (length first ≡ 0) ⊎ (length second ≡ 0) → zip first second ≡ []
zip-nil [] second ended = refl
zip-nil (unit ∷ units) [] ended = refl
zip-nil (unit ∷ units) (image ∷ images) (inl none) = absurd (omega arith)
zip-nil (unit ∷ units) (image ∷ images) (inr none) = absurd (omega arith)

units_have-nil : units_have [] ≡ Ok []
unfolding units_have
units_have-nil = refl

after-none : (before : List PerUnit) → after before (Ok []) ≡ Ok before
unfolding after
after-none before = ap Ok (append-nil before)

-- no unit, or no image, is left
pub all_mounted : (all : List (UnitSetup × Option Image)) (first : List UnitSetup) (second : List (Option Image)) (mounted : MountedImages)
    → IsSoFar all (zip first second) mounted → (length first ≡ 0) ⊎ (length second ≡ 0) → MountsAll (units_have all) (Ok mounted)
all_mounted all first second mounted s ended = (
  s.before,
  s.so_far
      ∙ ap (λ (l : List (UnitSetup × Option Image)). after s.before (units_have l)) (zip-nil first second ended)
      ∙ ap (after s.before) units_have-nil
      ∙ after-none s.before,
  s.at,
)
