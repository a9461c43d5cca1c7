use Rattle.std.proofs.Common.{◌≡◌, ◌-◌}
use Rattle.ccw_programs.specs.Links.{chain, chain_within}
use Rattle.ccw_programs.proofs.fetch.fetch_first.Given as goal

abbrev pub invariant-loop-done : goal.invariant-loop-done
invariant-loop-done l = record {
  told : chain l.area l.start l.fetches ≡ chain_within l.area (4096 - l.done) l.may_transfer 0 l.at;
}
