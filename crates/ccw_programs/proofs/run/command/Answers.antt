use Rattle.std.proofs.Common.{sym, ◌≡◌}
use Rattle.ccw_programs.specs.Links.{chain, broken_at}
use Rattle.ccw_programs.specs.Step.{program}
use Rattle.ccw_programs.proofs.Steps.{step-broken}
use Rattle.ccw_programs.proofs.run.command.Goals as goal

pub returns-in-Failed-clause-step : goal.returns-in-Failed-clause-step
returns-in-Failed-clause-step g c =
    let failed : chain c.args.area.now c.args.context.now.next c.args.context.now.fetched ≡ broken_at c.in-Failed.at
    c.in-Failed.ensures.chain.0 =
    rw (← c.next.ensures, ← c.fetched.ensures.value) c.in-Failed.ensures.chain.1 in
    rw c.check.ensures (sym
    (step-broken g.D.Device.meaning (program c.args.context.now c.args.device.now c.args.area.now) c.requires _ _ failed))
