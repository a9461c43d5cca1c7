use Rattle.std.proofs.Common.{◌≡◌, ◌∙◌, Some, ap, subst, sym}
use Rattle.std.specs.Prelude.{slice_get}
use Rattle.any_device.specs.declared.device.AnyDevice.{AnyDevice}
use Rattle.unit_world.specs.Sites.{SiteState}
use Rattle.excp_site.specs.Imaging.{IsImageOf}
use Rattle.excp_site.specs.Looks.{device_now}
use Rattle.excp_site.specs.Sites.{SiteView, beside_of}
use Rattle.excp_site.proofs.site.Site.make_image.Goals as goal

pub returns-clause-ok : goal.returns-clause-ok
returns-clause-ok c =
    let s = c.args.self.now in
    let made = c.in_ok-made.made.items in
    let plain_is : c.self.inside.plain ≡ s.plain = ap (λ (v : SiteView). v.plain) c.self.view_is in
    record {
      there = c.in_ok-has_unit.ensures.there;
      image = λ p at. subst (λ (d : AnyDevice). IsImageOf (beside_of s c.args.unit) p.book.mounted d made)
          (c.device.ensures ∙ ap device_now (c.book.ensures p (subst (λ (x : SiteState AnyDevice). slice_get x.units c.args.unit ≡ Some p) (sym plain_is) at)))
          (c.in_ok-made.ensures.ok p at);
      rest = ap (λ (v : SiteView). record v { made = made }) c.self.view_is;
    }
