use Rattle.std.proofs.Common.{◌≡◌, ◌≤◌}
use Rattle.tape_unit.specs.Reel.{bytes_before}
use Rattle.tape_unit.specs.Mount.{opening_items}
use Rattle.tape_unit.proofs.mount.fit.Given as goal

abbrev pub invariant-loop-item : goal.invariant-loop-item
invariant-loop-item l = record {
  counted : l.total ≡ bytes_before (opening_items l.items) l.item-index;
  room : l.total ≤ l.bytes;
}
