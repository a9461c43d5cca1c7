use Rattle.std.proofs.Common.{sym, ◌≡◌}
use Rattle.ccw_programs.specs.Areas.{areas, Parts, Bad}
use Rattle.ccw_programs.specs.Step.{program}
use Rattle.ccw_programs.proofs.Steps.{step-bad, step-acted}
use Rattle.ccw_programs.proofs.run.command_on.Goals as goal

pub returns-in-Err-clause-step : goal.returns-in-Err-clause-step
returns-in-Err-clause-step g c =
    let lies : areas (g.D.Device.meaning.flow c.args.device.now c.command_code-code.result) c.args.area.now c.args.links.now ≡ Bad
    c.in-Err.refusal =
    rw (← c.flow-flow.ensures) c.in-Err.ensures.value in
    rw c.check.ensures (sym
    (step-bad g.D.Device.meaning (program c.args.context.now c.args.device.now c.args.area.now) c.requires.running _ _ _
    c.requires.fetched c.command_code-code.ensures _ lies))

pub returns-in-Ok-clause-step : goal.returns-in-Ok-clause-step
returns-in-Ok-clause-step g c =
    let lies : areas (g.D.Device.meaning.flow c.args.device.now c.command_code-code.result) c.args.area.now c.args.links.now ≡ Parts
    c.data_areas.new.chain.items =
    rw (← c.flow-flow.ensures) c.in-Ok.ensures.value in
    rw (
      c.advance.ensures,
      c.act-acted.ensures.acted,
      c.act-acted.ensures.device,
      c.act-acted.ensures.area,
      c.of.ensures,
      c.as_slice.ensures.value,
      c.flow-flow.ensures,
    )
    (sym (step-acted g.D.Device.meaning (program c.args.context.now c.args.device.now c.args.area.now) c.requires.running _ _ _
    c.requires.fetched c.command_code-code.ensures _ lies))
