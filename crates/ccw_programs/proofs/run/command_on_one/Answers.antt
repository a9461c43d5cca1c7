use Rattle.std.proofs.Common.{sym, ◌≡◌, refl, [], ◌∷◌}
use Rattle.ccw_programs.specs.Areas.{areas, Bad}
use Rattle.ccw_programs.specs.declared.rule.Rule.TheVariants.{DataOutside}
use Rattle.ccw_programs.specs.Step.{program}
use Rattle.ccw_programs.proofs.Steps.{step-bad}
use Rattle.ccw_programs.proofs.run.command_on_one.Goals as goal

pub returns-in-None-clause-step : goal.returns-in-None-clause-step
returns-in-None-clause-step g c =
    let lies : areas (g.D.Device.meaning.flow c.args.device.now c.args.link.now.ccw.command) c.args.area.now (c.args.link.now ∷ []) ≡ Bad
    (record { at = c.args.link.now.at; rule = DataOutside }) =
    rw (← c.flow-flow.ensures) c.in-None.ensures.value in
    rw c.check.ensures (sym
    (step-bad g.D.Device.meaning (program c.args.context.now c.args.device.now c.args.area.now) c.requires.running
    (c.args.link.now ∷ []) c.args.fetches c.args.link.now.ccw.command c.requires.fetched refl _ lies))
