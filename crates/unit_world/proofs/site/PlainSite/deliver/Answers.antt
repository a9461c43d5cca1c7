use Rattle.unit_world.proofs.Sends.{SendCall, for-rows, sends-answer, sends-keeps}
use Rattle.unit_world.proofs.Sites.{UnitPlace, unit-called}
use Rattle.unit_world.proofs.site.PlainSite.deliver.Given.{Over}
use Rattle.unit_world.proofs.site.PlainSite.deliver.Goals.{After-holds, After-send_back}
use Rattle.unit_world.proofs.site.PlainSite.deliver.Goals as goal

-- the unit that is called
abbrev called : (g : Over) (c : After-holds g) → UnitPlace g.D.Device.meaning
called g c =
    unit-called c.self.inside.units.items c.self.inside.rows c.from.ensures c.requires.unit c.index_mut-side.ensures.value c.self.view_is
    c.self.invariant

-- and what it delivers
abbrev sent : (g : Over) (c : After-send_back g) → SendCall g.D.Device.meaning
sent g c = record {
  at = called g c.before.before.before;
  legal = c.holds.ensures.legal;
  all = c.holds.ensures.given;
  book = c.send_back.new.book;
  rows = c.send_back.new.rows;
  answer = c.send_back.result;
  sends = c.send_back.ensures;
}

pub send_back-requires : goal.send_back-requires
send_back-requires g c =
    for-rows g.D.Device.meaning (called g (goal.at.send_back-requires g c).After-holds) c.holds.ensures.legal c.holds.ensures.given

pub invariant_of-self : goal.invariant_of-self
invariant_of-self g c = sends-keeps g.D.Device.meaning (sent g (goal.at.invariant_of-self g c).After-send_back)

pub returns : goal.returns
returns g c = record { answer = sends-answer g.D.Device.meaning (sent g (goal.at.returns g c).After-send_back) }
