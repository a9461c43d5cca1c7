use Rattle.unit_world.proofs.States.{keeps-laws}
use Rattle.unit_world.proofs.laws.reached_states_keep_requests.Goals as goal

pub returns : goal.returns
returns g c = keeps-laws g.D.Device.meaning
