-- What a refused call leaves, once it was explained.
use Rattle.std.proofs.Common.{◌≡◌, ◌∙◌, ℕ, List, ap, inr, subst, sym}
use Rattle.std.proofs.lemmas.Bool.{false≢true}
use Rattle.any_device.specs.declared.device.AnyDevice.{AnyDevice}
use Rattle.unit_world.specs.Sites.{SiteState}
use Rattle.excp_site.specs.Extents.{extents_in}
use Rattle.excp_site.specs.Imaging.{LeavesMade}
use Rattle.excp_site.specs.Reasons.{LeavesReason, has_reason}
use Rattle.excp_site.specs.Refusals.{OpenCallLeaves, OpenCallRefused}
use Rattle.excp_site.specs.Sites.{SiteView}
use Rattle.excp_site.specs.declared.refusal.Refusal.{Refusal}
use Rattle.excp_c.specs.Done.{NotOpened, OnlyPlain}

-- of a site where a mount may have left the rule that an image breaks
pub image_refused : (s m t : SiteView) (e : Refusal) → LeavesMade s m e → LeavesReason m t e → LeavesReason s t e
image_refused s m t e made left = (
  left.0 ∙ ap (λ (x : SiteView). record x { made = t.made }) made.0,
  λ none. left.1 none ∙ made.1 (λ bad. false≢true (sym none ∙ ap has_reason bad)),
)

-- of one where an open may have left more room
pub not_opened : (s m t : SiteView) (unit : ℕ) (bytes : List ℕ) (e : Refusal) → OpenCallRefused s.plain unit (extents_in bytes) e →
    OpenCallLeaves s.plain unit m.plain e → OnlyPlain s m → LeavesReason m t e → NotOpened s t unit bytes e
not_opened s m t unit bytes e refused leaves only left =
    let plain : t.plain ≡ m.plain = ap (λ (x : SiteView). x.plain) left.0 in
    inr (
      refused,
      subst (λ (p : SiteState AnyDevice). OpenCallLeaves s.plain unit p e) (sym plain) leaves,
      (
        left.0 ∙ ap (λ (x : SiteView). record x { made = t.made }) only
            ∙ ap (λ (p : SiteState AnyDevice). record s { plain = p; made = t.made }) (sym plain),
        λ h. ap (λ (x : SiteView). x.made) (left.1 h) ∙ ap (λ (x : SiteView). x.made) only,
      ),
    )
