use Rattle.std.proofs.Common.{sym, ◌≡◌, refl, arith, [], ◌∷◌}
use Rattle.std.proofs.lemmas.List.Elements.{All-nil, All-cons}
use Rattle.ccw_programs.specs.Areas.{areas, Parts}
use Rattle.ccw_programs.specs.Links.{Sound}
use Rattle.ccw_programs.specs.Step.{program}
use Rattle.ccw_programs.proofs.Can.{areas-can}
use Rattle.ccw_programs.proofs.Steps.{step-acted}
use Rattle.ccw_programs.proofs.run.act_on_one.Goals as goal

pub act-acted-requires : goal.act-acted-requires
act-acted-requires g c =
    rw c.of.ensures (areas-can _ c.args.area.now (c.args.link.now ∷ []) _ (omega arith)
    (All-cons Sound c.args.link.now [] c.requires.sound (All-nil Sound)) (rw (← c.requires.flow) c.requires.parts))

pub returns-clause-step : goal.returns-clause-step
returns-clause-step g c =
    let lies : areas (g.D.Device.meaning.flow c.args.device.now c.args.link.now.ccw.command) c.args.area.now
    (c.args.link.now ∷ []) ≡ Parts c.args.parts.now =
    rw (← c.requires.flow) c.requires.parts in
    rw (
      c.advance_one.ensures,
      c.act-acted.ensures.acted,
      c.act-acted.ensures.device,
      c.act-acted.ensures.area,
      c.of.ensures,
      c.requires.flow,
    )
    (sym (step-acted g.D.Device.meaning (program c.args.context.now c.args.device.now c.args.area.now) c.requires.running
    (c.args.link.now ∷ []) c.args.fetches c.args.link.now.ccw.command c.requires.fetched refl _ lies))
