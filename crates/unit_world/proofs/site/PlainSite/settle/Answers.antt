use Rattle.unit_book.specs.Refusals.{SettleLacks}
use Rattle.unit_book.specs.Settle.{IsIdle}
use Rattle.unit_world.specs.Sites.{SettlesBook}
use Rattle.unit_world.proofs.Sites.{UnitPlace, book-does, book-now, book-now-err, book-settles, two-done, unit-called, world_before}
use Rattle.unit_world.proofs.Steps.{settles}
use Rattle.unit_world.proofs.site.PlainSite.settle.Given.{Over}
use Rattle.unit_world.proofs.site.PlainSite.settle.Goals.{After-settle}
use Rattle.unit_world.proofs.site.PlainSite.settle.Goals as goal

-- the unit that is called
abbrev called : (g : Over) (c : After-settle g) → UnitPlace g.D.Device.meaning
called g c =
    unit-called c.self.inside.units.items c.self.inside.rows c.from.ensures c.requires.unit c.index_mut-side.ensures.value c.self.view_is
    c.self.invariant

pub invariant_of-self : goal.invariant_of-self
invariant_of-self g c =
    let k = called g (goal.at.invariant_of-self g c).After-settle in
    book-settles _ k c.settle.new.self (settles g.D.Device.meaning (world_before _ k) c.settle.new.self c.settle.ensures.steps)

pub returns-clause-settles : goal.returns-clause-settles
returns-clause-settles g c =
    book-does _ (called g (goal.at.returns-clause-settles g c).After-settle) c.settle.new.self (SettlesBook g.D.Device.meaning) (record {
      settles = c.settle.ensures.steps;
      adds = c.settle.ensures.adds;
      mounted = c.settle.ensures.mounted;
      isc = c.settle.ensures.isc;
      capacity = c.settle.ensures.capacity;
    })

pub returns-clause-idle : goal.returns-clause-idle
returns-clause-idle g c =
    book-now _ (called g (goal.at.returns-clause-idle g c).After-settle) c.settle.new.self c.settle.result (λ b. IsIdle b.trace)
    (two-done c.settle.result (λ w a. record { none_waits = w; none_active = a }) c.settle.ensures.waiting c.settle.ensures.active)

pub returns-clause-full : goal.returns-clause-full
returns-clause-full g c =
    book-now-err _ (called g (goal.at.returns-clause-full g c).After-settle) c.settle.new.self c.settle.result
    (SettleLacks g.D.Device.meaning) c.settle.ensures.full
