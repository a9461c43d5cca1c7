use Rattle.std.proofs.Common.{◌≡◌, drop, length, reverse}
use Rattle.device_port.specs.Moves.{stored_back}
use Rattle.device_port.proofs.moves.store_back.Given as goal

abbrev pub invariant-loop-segment : goal.invariant-loop-segment
invariant-loop-segment l = record {
  told : stored_back l.segments (reverse l.block) l.fn.area ≡ stored_back (drop l.segment-index l.segments) (reverse l.rest) l.area;
  base : l.area.base ≡ l.fn.area.base;
  same : length l.area.bytes ≡ length l.fn.area.bytes;
}
