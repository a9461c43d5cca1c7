use Rattle.std.proofs.Common.{◌≡◌, drop, length}
use Rattle.device_port.specs.Moves.{stored}
use Rattle.device_port.proofs.moves.store.Given as goal

abbrev pub invariant-loop-segment : goal.invariant-loop-segment
invariant-loop-segment l = record {
  told : stored l.segments l.bytes l.fn.area ≡ stored (drop l.segment-index l.segments) l.rest l.area;
  base : l.area.base ≡ l.fn.area.base;
  same : length l.area.bytes ≡ length l.fn.area.bytes;
}
