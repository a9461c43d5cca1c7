use Rattle.std.proofs.Common.{◌≤◌, ◌∙◌, length, refl}
use Rattle.std.proofs.lemmas.Result.{on_err_weaker, on_ok_weaker}
use Rattle.unit_world.specs.Parts.{PartAccepts, unit_part}
use Rattle.unit_world.proofs.Sides.{part-accepted}
use Rattle.unit_world.proofs.States.{either-on}
use Rattle.unit_world.proofs.Sites.{UnitPlace, does, keeps, keeps-same, on-old, part-at, stays, unit-called, world-before, world_before}
use Rattle.unit_world.proofs.site.PlainSite.accept.Given.{Over}
use Rattle.unit_world.proofs.site.PlainSite.accept.Goals.{After-index_mut-side}
use Rattle.unit_world.proofs.site.PlainSite.accept.Goals as goal

-- the unit that is called
abbrev called : (g : Over) (c : After-index_mut-side g) → UnitPlace g.D.Device.meaning
called g c =
    unit-called c.self.inside.units.items c.self.inside.rows (c.from.ensures ∙ c.unit.ensures) c.requires.unit
    c.index_mut-side.ensures.value c.self.view_is
    c.self.invariant

pub accept-requires : goal.accept-requires
accept-requires g c =
    let k = called g (goal.at.accept-requires g c).After-index_mut-side in
    c.requires.next (unit_part k.side) (part-at _ k)

pub invariant_of-self : goal.invariant_of-self
invariant_of-self g c =
    let k = called g (goal.at.invariant_of-self g c).After-index_mut-side in
    either-on c.accept.result c.accept.ensures.ok c.accept.ensures.err
    (λ h. keeps _ k c.accept.new.self
    (part-accepted g.D.Device.meaning (world_before _ k) (world-before _ k) c.args.request (unit_part c.accept.new.self) refl h))
    (keeps-same _ k c.accept.new.self)

pub returns-clause-ok : goal.returns-clause-ok
returns-clause-ok g c =
    on_ok_weaker c.accept.result (does _ (called g (goal.at.returns-clause-ok g c).After-index_mut-side) c.accept.new.self
    (λ p q. PartAccepts p c.args.request q)) c.accept.ensures.ok

pub returns-clause-full : goal.returns-clause-full
returns-clause-full g c =
    on_err_weaker c.accept.result (on-old _ (called g (goal.at.returns-clause-full g c).After-index_mut-side)
    (λ p. p.intake_room ≤ length p.flight)) c.accept.ensures.full

pub returns-clause-err : goal.returns-clause-err
returns-clause-err g c =
    on_err_weaker c.accept.result (stays _ (called g (goal.at.returns-clause-err g c).After-index_mut-side) c.accept.new.self)
    c.accept.ensures.err
