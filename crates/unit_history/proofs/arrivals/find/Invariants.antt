use Rattle.std.proofs.Common.{◌≡◌, false, take}
use Rattle.std.specs.List.{list_any}
use Rattle.unit_book.specs.Trace.{arrives}
use Rattle.unit_history.proofs.arrivals.find.Given as goal

abbrev pub invariant-loop-place : goal.invariant-loop-place
invariant-loop-place l = record { none : list_any (arrives l.name) (take l.place l.entries) ≡ false }
