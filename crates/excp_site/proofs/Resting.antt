-- A unit at rest.
use Rattle.std.proofs.Common.{◌≡◌, ◌<◌, ℕ, arith, Bool, true, false, Some, List, [], ◌∷◌, length, refl, suc, zero}
use Rattle.std.specs.Prelude.{IsTrue, ◌↔◌, slice_get}
use Rattle.std.specs.Bool.{OnTrue}
use Rattle.any_device.specs.declared.device.AnyDevice.{AnyDevice}
use Rattle.unit_world.specs.Parts.{UnitPart}
use Rattle.unit_world.specs.Sites.{SiteState, OnPart}

-- a test that failed, of what holds
pub not-both : (b : Bool) (P : Type 0) → (IsTrue b ↔ P) → b ≡ false → P → ⊥
not-both true P i e p = absurd cc
not-both false P i e p = let t = i.1 p in absurd cc

-- what follows of a test
pub on-true : (b : Bool) {P : Type 0} → (b ≡ true → P) → OnTrue b P
on-true true f = f refl
on-true false f = tt

-- the item at a place
pub item-there : {X : Type 0} (xs : List X) (i : ℕ) → i < length xs → (x : X) × (slice_get xs i ≡ Some x)
item-there [] i h = absurd (omega (arith, h))
item-there (x ∷ xs) zero h = (x, refl)
item-there (x ∷ xs) (suc i) h = item-there xs i (omega (arith, h))

-- the unit that there is
pub part-there : (s : SiteState AnyDevice) (unit : ℕ) → unit < length s.units → {P : UnitPart AnyDevice → Type 0} {R : Type 0} → OnPart s unit P →
    ((p : UnitPart AnyDevice) → slice_get s.units unit ≡ Some p → P p → R) → R
part-there s unit within h f = let found = item-there s.units unit within in f found.0 found.1 (h found.0 found.1)

pub nil-of : {X : Type 0} (xs : List X) → length xs ≡ 0 → xs ≡ []
nil-of [] h = refl
nil-of (x ∷ xs) h = absurd (omega (arith, h))
