use Rattle.std.proofs.Common.{◌≡◌, ◌+◌, ◌-◌, length, nat_eq, true}
use Rattle.ccw_programs.specs.Areas.{parts_after, parts_from}
use Rattle.ccw_programs.proofs.areas.push_words.Given as goal

abbrev pub invariant-loop-place : goal.invariant-loop-place
invariant-loop-place l = record {
  room : length l.chain.items ≡ length l.fn.chain.items + l.place;
  told : parts_after l.fn.chain.items (parts_from l.area l.skip true l.list l.words l.bytes) ≡ parts_after l.chain.items
      (parts_from l.area l.skip (nat_eq l.place 0) l.at (l.words - l.place) l.count);
}
