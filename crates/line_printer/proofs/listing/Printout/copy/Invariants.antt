use Rattle.std.proofs.Common.{◌≡◌, ◌≤◌, take}
use Rattle.std.specs.Prelude.{vec_capacity}
use Rattle.line_printer.proofs.listing.Printout.copy.Given as goal

abbrev pub invariant-loop-line : goal.invariant-loop-line
invariant-loop-line l = record {
  copied : l.lines.items ≡ take l.line-index l.self.lines;
  room : l.self.room ≤ vec_capacity l.lines;
}
