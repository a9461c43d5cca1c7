use Rattle.std.proofs.Common.{sym, ◌≡◌, ◌∙◌}
use Rattle.ccw_programs.specs.Links.{chain, Broken}
use Rattle.ccw_programs.specs.Step.{program}
use Rattle.ccw_programs.proofs.Steps.{step-broken}
use Rattle.ccw_programs.proofs.run.command_of_chain.Goals as goal

pub returns-in-Err-clause-step : goal.returns-in-Err-clause-step
returns-in-Err-clause-step g c =
    let failed : chain c.args.area.now c.args.context.now.next c.args.context.now.fetched ≡ Broken c.fetch_on.new.links.items c.in-Err.refusal =
    c.requires.fetched ∙ rw (c.push.ensures.items, c.clear.ensures) at c.in-Err.ensures.chain in
    rw c.check.ensures (sym
    (step-broken g.D.Device.meaning (program c.args.context.now c.args.device.now c.args.area.now) c.requires.running _ _ failed))
