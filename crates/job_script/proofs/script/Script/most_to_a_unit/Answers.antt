use Rattle.std.proofs.Common.{rules, refl}
use Rattle.job_script.specs.Commands.{most}
use Rattle.job_script.proofs.script.Script.most_to_a_unit.Goals as goal

pub loop-unit-init : goal.loop-unit-init
unfolding most
loop-unit-init c = refl

pub loop-unit-preserved : goal.loop-unit-preserved
unfolding most
loop-unit-preserved c = search (rules, c.requests_to_units-counts.ensures c.loop-unit.unit)
