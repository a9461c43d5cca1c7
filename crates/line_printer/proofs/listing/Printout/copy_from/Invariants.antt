use Rattle.std.proofs.Common.{◌≡◌, ◌≤◌, length, take}
use Rattle.std.specs.Prelude.{vec_capacity}
use Rattle.line_printer.proofs.listing.Printout.copy_from.Given as goal

abbrev pub invariant-loop-line : goal.invariant-loop-line
invariant-loop-line l = record {
  copied : l.self-inside.lines.items ≡ take l.line-index l.line-items;
  within : length l.line-items ≤ l.self-inside.room;
  room : l.self-inside.room ≤ vec_capacity l.self-inside.lines;
  same : l.self-inside.room ≡ l.from.room;
}
