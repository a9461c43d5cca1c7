use Rattle.std.proofs.Common.{◌≡◌, ◌-◌, length}
use Rattle.ccw_programs.specs.Links.{behind_all, chain_within, fetched_on, Sound}
use Rattle.std.specs.List.{All}
use Rattle.ccw_programs.proofs.fetch.fetch_on.Given as goal

abbrev pub invariant-loop-done : goal.invariant-loop-done
invariant-loop-done l = record {
  told : fetched_on l.area l.fn.links.items l.fetches l.transfers l.from ≡ behind_all l.links.items
      (chain_within l.area (4096 - l.done) l.may_transfer (length l.links.items) l.at);
  sound : All Sound l.links.items;
}
