use Rattle.std.proofs.Common.{rules}
use Rattle.system_threads.proofs.Turns.{own_place}
use Rattle.system_threads.proofs.refusals.place_of.Goals as goal

pub returns-clause-own : goal.returns-clause-own
returns-clause-own c = own_place _ _ _ (search rules)
