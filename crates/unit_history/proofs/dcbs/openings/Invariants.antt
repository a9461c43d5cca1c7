use Rattle.std.proofs.Common.{◌≡◌, length, take}
use Rattle.std.specs.List.{filter}
use Rattle.unit_book.specs.Trace.{is_opening}
use Rattle.unit_history.proofs.dcbs.openings.Given as goal

abbrev pub invariant-loop-entry : goal.invariant-loop-entry
invariant-loop-entry l = l.count ≡ length (filter is_opening (take l.entry-index l.trace))
