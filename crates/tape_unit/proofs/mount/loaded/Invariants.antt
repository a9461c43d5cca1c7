use Rattle.std.proofs.Common.{◌≡◌, take}
use Rattle.tape_unit.specs.Reel.{IsOn}
use Rattle.tape_unit.specs.Mount.{opening_items}
use Rattle.tape_unit.proofs.mount.loaded.Given as goal

abbrev pub invariant-loop-item : goal.invariant-loop-item
invariant-loop-item l = record {
  loaded : l.reel ≡ record { size = l.bytes; items = take l.item-index (opening_items l.items) };
  end : l.end.place ≡ l.item-index;
  on : IsOn l.reel.items l.end;
}
