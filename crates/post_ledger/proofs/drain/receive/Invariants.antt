use Rattle.post_ledger.specs.Work.{Works}
use Rattle.post_ledger.proofs.drain.receive.Given as goal

abbrev pub invariant-loop : goal.invariant-loop
invariant-loop g l = Works l.fn.unit l.unit
