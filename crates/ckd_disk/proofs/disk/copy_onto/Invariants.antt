use Rattle.std.proofs.Common.{◌≡◌, map, take}
use Rattle.ckd_disk.proofs.disk.copy_onto.Given as goal

abbrev pub invariant-loop-number : goal.invariant-loop-number
invariant-loop-number l = record {
  sizes : map (λ t. t.size) l.tracks.items ≡ map (λ t. t.size) l.from.items;
  copied : take l.number l.tracks.items ≡ take l.number l.from.items;
}
