use Rattle.std.proofs.Common.{◌∙◌, ap, arith, length, map}
use Rattle.std.proofs.lemmas.List.{length_push}
use Rattle.any_device.specs.declared.device.AnyDevice.{AnyDevice}
use Rattle.unit_world.specs.Sites.{SiteState}
use Rattle.excp_site.specs.Sites.{SiteView}
use Rattle.excp_site.specs.contracts.site.Site.{the_view}
use Rattle.excp_site.proofs.Refused.{errs, same-lists}
use Rattle.excp_site.proofs.site.Site.add.Goals as goal

pub invariant_of-self-in-Ok-add_unit : goal.invariant_of-self-in-Ok-add_unit
invariant_of-self-in-Ok-add_unit c =
    let i = c.self.invariant in
    let before = ap (λ (s : SiteView). length s.plain.units) c.self.view_is in
    let units = ap (λ (s : SiteState AnyDevice). length s.units) c.in-Ok-add_unit.ensures.ok ∙ length_push c.self.inside.plain.units _ in
    let earlier = ap length c.push_reserved.ensures.items ∙ length_push c.reserve.new.self.items _ in
    let beside = ap length c.push_reserved-in-Ok-add_unit.ensures.items ∙ length_push c.reserve-2.new.self.items _ in
    let kept = ap length c.reserve.ensures.items in
    let beside_kept = ap length c.reserve-2.ensures.items in (
      omega (arith, c.requires.units, before, units),
      omega (arith, i.1, units, earlier, kept),
      omega (arith, i.2, units, beside, beside_kept),
    )

pub returns-in_err-reserve-2-clause-err : goal.returns-in_err-reserve-2-clause-err
returns-in_err-reserve-2-clause-err c =
    let now : SiteView = the_view c.self.inside in
    errs c.from_residual-in_err-reserve-2.result _
    (same-lists now _ _ (ap (map (λ e. e.items)) c.reserve.ensures.items) c.reserve-2.ensures.items ∙ c.self.view_is)
