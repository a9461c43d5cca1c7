use Rattle.std.proofs.Common.{◌≡◌}
use Rattle.post_ledger.proofs.drain.give_back.Given as goal

abbrev pub invariant-loop : goal.invariant-loop
invariant-loop g l = record {
  unit : l.unit.unit ≡ l.fn.unit.unit;
  trace : l.unit.book.trace ≡ l.fn.unit.book.trace;
  mounted : l.unit.book.mounted ≡ l.fn.unit.book.mounted;
}
