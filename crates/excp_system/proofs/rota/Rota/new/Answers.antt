use Rattle.std.proofs.Common.{arith}
use Rattle.excp_system.proofs.Rests.{are_short, none_rests}
use Rattle.excp_system.proofs.rota.Rota.new.Goals as goal

pub invariant_of-result : goal.invariant_of-result
invariant_of-result c = (are_short, omega arith)

pub returns : goal.returns
returns c = none_rests
