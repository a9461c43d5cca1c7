use Rattle.unit_world.proofs.Calls.{calls-make-steps}
use Rattle.unit_world.proofs.laws.calls_make_steps.Goals as goal

pub returns : goal.returns
returns g c = calls-make-steps g.D.Device.meaning
