use Rattle.excp_system.proofs.Rests.{are_short, none_rests}
use Rattle.excp_system.proofs.rota.Rota.call_all.Goals as goal

pub invariant_of-self : goal.invariant_of-self
invariant_of-self c = (are_short, c.self.invariant.1)

pub returns : goal.returns
returns c = none_rests
