use Rattle.std.proofs.Common.{◌≡◌, reverse, take}
use Rattle.excp_site.proofs.Flagged.{AllUnflagged}
use Rattle.excp_site.proofs.site.long_use.has_error.Given as goal

abbrev pub invariant-loop-entry : goal.invariant-loop-entry
invariant-loop-entry l = record {
  unflagged : AllUnflagged l.book (reverse (take l.entry-index l.entry-items));
  trace : reverse l.entry-items ≡ l.book.trace;
}
