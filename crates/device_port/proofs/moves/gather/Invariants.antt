use Rattle.std.proofs.Common.{◌≡◌, ◌-◌, ◌≤◌, ◌++◌, length, take, drop}
use Rattle.device_port.specs.Moves.{gathered, padded}
use Rattle.device_port.proofs.moves.gather.Given as goal

abbrev pub invariant-loop-segment : goal.invariant-loop-segment
invariant-loop-segment l = record {
  within : l.at ≤ length l.into;
  rest : take l.at l.into ++ padded (length l.into - l.at) (gathered l.area (drop l.segment-index l.segments)) ≡ padded (length l.into)
      (gathered l.area l.segments);
}
