use Rattle.std.proofs.Common.{◌≡◌, ◌++◌, length}
use Rattle.std.specs.Vec.Iter.{into_iter_items}
use Rattle.post_ledger.specs.Audit.{AllAudited}
use Rattle.post_ledger.proofs.audit.audit_all.Given as goal

abbrev pub invariant-loop-log : goal.invariant-loop-log
invariant-loop-log g l = record {
  all : l.fn.logs.items ≡ l.yielded ++ into_iter_items l.log-iterator;
  turn : l.unit ≡ length l.yielded;
  hands : l.hands.items ≡ l.fn.hands.items;
  audited : AllAudited g.S.Site.own_calls g.S.Site.rows.tasks l.yielded l.fn.hands.items;
}
