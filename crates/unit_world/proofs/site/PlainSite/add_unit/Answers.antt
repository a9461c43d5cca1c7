use Rattle.std.proofs.Common.{◌∷◌, ◌++◌, ◌∙◌, [], map, subst, sym, ap}
use Rattle.std.proofs.lemmas.List.{map-append}
use Rattle.unit_world.specs.Parts.{opening_part, unit_part}
use Rattle.unit_world.specs.Sites.{IsSite}
use Rattle.unit_world.proofs.Deliveries.{one-more-unit}
use Rattle.unit_world.proofs.Sites.{view_of}
use Rattle.unit_world.proofs.site.PlainSite.add_unit.Goals as goal

pub invariant_of-self-2 : goal.invariant_of-self-2
invariant_of-self-2 g c =
    let meaning = g.D.Device.meaning in
    let i = c.self.inside in
    let items = i.units.items in
    let old = view_of items i.rows in
    let side = c.in_ok-side.side in
    let made = c.in_ok-side.ensures.ok ∙ ap (λ n. opening_part c.args.book n c.args.intake) c.tasks.ensures in
    let units = ap (map unit_part) (c.push_reserved.ensures.items ∙ ap (λ us. us ++ side ∷ []) c.reserve.ensures.items)
    ∙ map-append unit_part items (side ∷ []) ∙ ap (λ p. map unit_part items ++ p ∷ []) made in
    let same = ap (λ us. record old { units = us }) units in
    subst (IsSite meaning) (sym same)
    (one-more-unit meaning old c.args.book c.args.intake c.self.invariant c.holds.ensures.legal c.requires.opening c.holds.ensures.given)
