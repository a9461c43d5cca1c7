-- WHAT AN EXPLANATION LEAVES: why a call was refused, in words (profile).
use Rattle.std.specs.Prelude.{◌≡◌, Bool, false, true}
use Rattle.excp_site.specs.Sites.{SiteView}
use Rattle.excp_site.specs.declared.refusal.Refusal.{Refusal}
use Rattle.excp_site.specs.declared.refusal.Refusal.TheVariants.{BadGeometry, BadMedium, BadImage, BadExtent, AreaMisaligned, AreaTooLong, AreaPastTop}
use Rattle.excp_site.specs.declared.refusal.Refusal.TheVariants.{BadIob, BadEcb, BadProgram, WrongDcb}

-- only the bytes that were made last differ
abbrev pub LeavesText : SiteView → SiteView → Type 0
LeavesText old new = new ≡ record old { made = new.made }

-- the refusals that have a reason
abbrev pub has_reason : Refusal → Bool
has_reason BadGeometry = true
has_reason BadMedium = true
has_reason BadImage = true
has_reason BadExtent = true
has_reason AreaMisaligned = true
has_reason AreaTooLong = true
has_reason AreaPastTop = true
has_reason BadIob = true
has_reason BadEcb = true
has_reason BadProgram = true
has_reason WrongDcb = true
has_reason _ = false

-- of any other refusal nothing differs
abbrev pub LeavesReason : SiteView → SiteView → Refusal → Type 0
LeavesReason old new e = LeavesText old new × (has_reason e ≡ false → new ≡ old)
