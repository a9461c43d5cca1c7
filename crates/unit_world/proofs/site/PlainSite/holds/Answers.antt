use Rattle.std.proofs.Common.{subst}
use Rattle.unit_world.specs.Sites.{KeepsSiteLaws}
use Rattle.unit_world.proofs.Sites.{view_of}
use Rattle.unit_world.proofs.States.{keeps-laws}
use Rattle.unit_world.specs.Sites.{world_at}
use Rattle.unit_world.proofs.site.PlainSite.holds.Goals as goal

pub returns-clause-laws : goal.returns-clause-laws
returns-clause-laws g c =
    let meaning = g.D.Device.meaning in
    let i = c.self.inside in
    let s = view_of i.units.items i.rows in
    subst (KeepsSiteLaws meaning) c.self.view_is
    (λ unit part at. keeps-laws meaning (world_at s unit part) (c.self.invariant.worlds unit part at).reached)
