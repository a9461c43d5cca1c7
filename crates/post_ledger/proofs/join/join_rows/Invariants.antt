use Rattle.post_ledger.proofs.Joins.{Rest}
use Rattle.post_ledger.proofs.join.join_rows.Given as goal

abbrev pub invariant-loop-taker : goal.invariant-loop-taker
invariant-loop-taker g l = Rest g.I.RowItem.from l.fn.takers.items l.takers.items l.fn.fans.items l.fans.items

abbrev pub decreases-loop-taker : goal.decreases-loop-taker
decreases-loop-taker g l = goal.left-loop-taker g l
