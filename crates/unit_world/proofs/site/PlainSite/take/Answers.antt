use Rattle.std.proofs.Common.{◌<◌}
use Rattle.std.proofs.lemmas.Result.{on_err_weaker}
use Rattle.unit_book.specs.Book.{occupancy}
use Rattle.unit_world.specs.Parts.{PartTakes, unit_part}
use Rattle.unit_world.proofs.Sides.{part-next, part-taken}
use Rattle.unit_world.proofs.States.{either}
use Rattle.unit_world.proofs.Sites.{UnitPlace, does, if-ok, keeps, keeps-same, on-old, stays, unit-called, world-before, world_before}
use Rattle.unit_world.proofs.site.PlainSite.take.Given.{Over}
use Rattle.unit_world.proofs.site.PlainSite.take.Goals.{After-index_mut-side}
use Rattle.unit_world.proofs.site.PlainSite.take.Goals as goal

-- the unit that is called
abbrev called : (g : Over) (c : After-index_mut-side g) → UnitPlace g.D.Device.meaning
called g c =
    unit-called c.self.inside.units.items c.self.inside.rows c.from.ensures c.requires.unit c.index_mut-side.ensures.value c.self.view_is
    c.self.invariant

pub take-requires : goal.take-requires
take-requires g c =
    let k = called g (goal.at.take-requires g c).After-index_mut-side in
    part-next g.D.Device.meaning (world_before _ k) (world-before _ k)

pub invariant_of-self : goal.invariant_of-self
invariant_of-self g c =
    let k = called g (goal.at.invariant_of-self g c).After-index_mut-side in
    either c.take.result c.take.ensures.ok c.take.ensures.err
    (λ a h. keeps _ k c.take.new.self
    (part-taken g.D.Device.meaning (world_before _ k) (world-before _ k) a (unit_part c.take.new.self) h))
    (keeps-same _ k c.take.new.self)

pub returns-clause-ok : goal.returns-clause-ok
returns-clause-ok g c =
    if-ok c.take.result (λ a. does _ (called g (goal.at.returns-clause-ok g c).After-index_mut-side) c.take.new.self
    (λ p q. PartTakes g.D.Device.meaning p a q)) c.take.ensures.ok

pub returns-clause-room : goal.returns-clause-room
returns-clause-room g c =
    on_err_weaker c.take.result (on-old _ (called g (goal.at.returns-clause-room g c).After-index_mut-side)
    (λ p. occupancy p.book < p.book.capacity)) c.take.ensures.room

pub returns-clause-full : goal.returns-clause-full
returns-clause-full g c =
    on_err_weaker c.take.result (on-old _ (called g (goal.at.returns-clause-full g c).After-index_mut-side) (λ p. p.book.spare < 2))
    c.take.ensures.full

pub returns-clause-err : goal.returns-clause-err
returns-clause-err g c =
    on_err_weaker c.take.result (stays _ (called g (goal.at.returns-clause-err g c).After-index_mut-side) c.take.new.self)
    c.take.ensures.err
