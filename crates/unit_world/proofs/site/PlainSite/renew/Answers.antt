use Rattle.std.proofs.Common.{◌∙◌, ap, length, sym, subst}
use Rattle.std.proofs.lemmas.List.{length-map}
use Rattle.unit_world.specs.Parts.{RenewsPart, opening_part, unit_part}
use Rattle.unit_world.specs.Sites.{from_unit, world_at}
use Rattle.unit_world.specs.States.{IsWorldState}
use Rattle.unit_world.proofs.Renewals.{renewed-unit}
use Rattle.unit_world.proofs.Sites.{UnitPlace, does, keeps, part-at, unit-called, world-before}
use Rattle.unit_world.proofs.site.PlainSite.renew.Given.{Over}
use Rattle.unit_world.proofs.site.PlainSite.renew.Goals.{After-index_mut-side}
use Rattle.unit_world.proofs.site.PlainSite.renew.Goals as goal

-- the unit that is called
abbrev called : (g : Over) (c : After-index_mut-side g) → UnitPlace g.D.Device.meaning
called g c =
    unit-called c.self.inside.units.items c.self.inside.rows c.from.ensures c.requires.unit c.index_mut-side.ensures.value c.self.view_is
    c.self.invariant

pub renew-requires-clause-finished : goal.renew-requires-clause-finished
renew-requires-clause-finished g c =
    let m = g.D.Device.meaning in
    let k = called g (goal.at.renew-requires-clause-finished g c).After-index_mut-side in
    c.requires.rest.finished (unit_part k.side) (part-at m k)

pub renew-requires-clause-out : goal.renew-requires-clause-out
renew-requires-clause-out g c =
    let m = g.D.Device.meaning in
    let k = called g (goal.at.renew-requires-clause-out g c).After-index_mut-side in
    c.requires.rest.out (unit_part k.side) (part-at m k)

pub invariant_of-self : goal.invariant_of-self
invariant_of-self g c =
    let m = g.D.Device.meaning in
    let k = called g (goal.at.invariant_of-self g c).After-index_mut-side in
    let new = c.renew.new.self in
    keeps m k new
    (subst (λ p. IsWorldState m (world_at k.old k.unit p)) (sym c.renew.ensures.part.is)
    (renewed-unit m k.old k.unit (unit_part k.side) new.book (unit_part k.side).intake_room (world-before m k)
    c.requires.rest.collected c.renew.ensures.part.book c.renew.ensures.legal))

pub returns : goal.returns
returns g c =
    let m = g.D.Device.meaning in
    let k = called g (goal.at.returns g c).After-index_mut-side in
    let new = c.renew.new.self in
    does m k new (λ p q. RenewsPart m (length k.old.rows) p q)
    (record {
      book = c.renew.ensures.part.book;
      is = c.renew.ensures.part.is ∙ ap (λ n. opening_part new.book n (unit_part k.side).intake_room)
          (sym (world-before m k).tasks ∙ length-map k.old.rows (from_unit k.unit));
    })
