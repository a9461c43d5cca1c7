-- WHAT A CHECKPOINT LEAVES (profile).
use Rattle.std.specs.Prelude.{◌≡◌, ◌≤◌, ◌<◌, ◌+◌, ◌-◌, ◌^◌, ℕ, None, Option, Some, true, List, length, map, min, slice_set}
use Rattle.std.specs.List.{range_with_len}
use Rattle.any_device.specs.Devices.{any_device}
use Rattle.any_device.specs.declared.device.AnyDevice.{AnyDevice}
use Rattle.medium_image.specs.Saving.{Forgets}
use Rattle.medium_image.specs.declared.image.Kept.{Kept}
use Rattle.unit_book.specs.Book.{Book}
use Rattle.unit_book.specs.Dcbs.{dcb_state, flag}
use Rattle.unit_book.specs.declared.dcb.DcbState.TheVariants.{Open}
use Rattle.unit_world.specs.Parts.{UnitPart, RenewsPart, issued_by}
use Rattle.unit_world.specs.Sites.{IsAtRest, OnPart, OnUnit}
use Rattle.excp_site.specs.Looks.{device_now}
use Rattle.excp_site.specs.Sites.{HasPart, SiteView, beside_of, earlier_of}
use Rattle.excp_site.specs.declared.refusal.Refusal.{Refusal}
use Rattle.excp_site.specs.declared.refusal.Refusal.TheVariants.{NoMemory, NoUnit, NotIdle, InError}

-- how many requests of a task the unit had so far, up to 2^64 - 1
abbrev pub count_after : SiteView → ℕ → UnitPart AnyDevice → ℕ → ℕ
count_after s unit p task = min (earlier_of s unit task + issued_by p.issued task) (2 ^ 64 - 1)

abbrev pub counts_after : SiteView → ℕ → UnitPart AnyDevice → List ℕ
counts_after s unit p = map (count_after s unit p) (range_with_len 0 (length s.plain.rows))

-- an open DCB has the error flag
pub record IsFlagged (b : Book AnyDevice) : Type 0 where
  pub dcb : ℕ
  pub open_is : dcb_state dcb b.trace ≡ Open
  pub flagged : flag dcb b.trace ≡ true

-- what the image that a unit came from has beside its medium as it is now, if it came from one
abbrev pub BesideAfter : Option Kept → AnyDevice → AnyDevice → Option Kept → Type 0
BesideAfter None mounted now None = Unit {0}
BesideAfter (Some old) mounted now (Some new) = Forgets old mounted now new
BesideAfter _ mounted now _ = ⊥

-- A UNIT BEGINS AGAIN: the numbers of its requests go on, and the image of its medium stays the same. All else of the site stays
pub record Checkpoints (old : SiteView) (unit : ℕ) (new : SiteView) : Type 0 where
  pub at_rest : IsAtRest old.plain unit
  pub no_error : OnPart old.plain unit (λ p. IsFlagged p.book → ⊥)
  pub unit_is : OnUnit old.plain unit (λ p q. RenewsPart any_device (length old.plain.rows) p q) new.plain
  pub earlier : OnPart old.plain unit (λ p. new.earlier ≡ slice_set old.earlier unit (counts_after old unit p))
  pub image : OnPart old.plain unit (λ p. BesideAfter (beside_of old unit) p.book.mounted (device_now p.book) (beside_of new unit))
  pub beside : new.beside ≡ slice_set old.beside unit (beside_of new unit)
  pub rest : new ≡ record old { plain = new.plain; earlier = new.earlier; beside = new.beside }

-- WHY IT DOES NOT
abbrev pub CheckpointRefused : SiteView → ℕ → Refusal → Type 0
CheckpointRefused s unit NoUnit = length s.plain.units ≤ unit
CheckpointRefused s unit NotIdle = (unit < length s.plain.units) × (IsAtRest s.plain unit → ⊥)
CheckpointRefused s unit InError = IsAtRest s.plain unit × HasPart s.plain unit (λ p. IsFlagged p.book)
CheckpointRefused s unit NoMemory = IsAtRest s.plain unit × HasPart s.plain unit (λ p. IsFlagged p.book → ⊥)
CheckpointRefused s unit _ = ⊥
