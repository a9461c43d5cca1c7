use Rattle.std.proofs.Common.{◌∙◌, refl, sym}
use Rattle.excp_system.specs.Drained.{IsDrained}
use Rattle.excp_system.proofs.Balances.{all_at, all_done, all_more}
use Rattle.excp_system.proofs.balance.drained.Goals as goal

pub returns-then-not-is_drained : goal.returns-then-not-is_drained
returns-then-not-is_drained g c = (
  λ off. absurd (cc off),
  λ all. sym c.if-not-is_drained.true
      ∙ c.is_drained.ensures.1
      (all_at (IsDrained g.D.Device.meaning c.args.tasks.now) c.args.units.now c.loop-unit.unit-index c.unit-item.result
      c.loop-unit-test.true c.unit-item.is all),
)

pub loop-unit-preserved : goal.loop-unit-preserved
loop-unit-preserved g c =
    all_more (IsDrained g.D.Device.meaning c.args.tasks.now) c.args.units.now c.loop-unit.unit-index c.unit-item.result
    c.loop-unit-test.true c.unit-item.is c.loop-unit.invariant
    (c.is_drained.ensures.0 c.if-not-is_drained.false)

pub returns : goal.returns
returns g c = (
  λ _. all_done (IsDrained g.D.Device.meaning c.args.tasks.now) c.args.units.now c.loop-unit.unit-index c.loop-unit-test.false
      c.loop-unit.invariant,
  λ _. refl,
)
