use Rattle.std.proofs.Common.{◌≡◌, ◌≤◌, ◌-◌, drop, length}
use Rattle.unit_history.specs.MovedData.{first_moved, with_later}
use Rattle.unit_history.proofs.moved.first_moved.Given as goal

abbrev pub invariant-loop-part : goal.invariant-loop-part
invariant-loop-part l = record {
  few : length l.bytes.items ≤ l.most;
  told : with_later l.way l.bytes.items (first_moved l.way l.area (l.most - length l.bytes.items) (drop l.part-index l.parts))
      ≡ first_moved l.way l.area l.most l.parts;
}
