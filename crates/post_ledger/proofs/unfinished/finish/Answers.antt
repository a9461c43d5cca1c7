use Rattle.std.proofs.Common.{rules, arith}
use Rattle.post_ledger.proofs.unfinished.finish.Goals as goal

-- nothing was collected yet, and the units are under their locks
pub invariant_of-run : goal.invariant_of-run
invariant_of-run g c = (c.requires, rw c.new.ensures.items (record { few = omega arith; each = search rules }), search rules)
