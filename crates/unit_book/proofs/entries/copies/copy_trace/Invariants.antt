use Rattle.std.proofs.Common.{◌≡◌, take}
use Rattle.unit_book.proofs.entries.copies.copy_trace.Given as goal

abbrev pub invariant-loop-entry : goal.invariant-loop-entry
invariant-loop-entry l = l.copies.items ≡ take l.entry-index l.trace.items
