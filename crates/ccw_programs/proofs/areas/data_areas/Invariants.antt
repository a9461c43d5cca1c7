use Rattle.std.proofs.Common.{◌≡◌, ◌*◌, ◌≤◌, length, drop}
use Rattle.ccw_programs.specs.Areas.{areas, preceded}
use Rattle.ccw_programs.proofs.areas.data_areas.Given as goal

abbrev pub invariant-loop-link : goal.invariant-loop-link
invariant-loop-link l = record {
  room : length l.chain.items ≤ 33 * l.link-index;
  told : areas l.flow l.area l.links ≡ preceded l.chain.items (areas l.flow l.area (drop l.link-index l.links));
}
