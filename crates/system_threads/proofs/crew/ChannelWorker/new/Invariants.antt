use Rattle.std.proofs.Common.{◌≡◌, ◌<◌}
use Rattle.std.specs.List.{All}
use Rattle.system_threads.specs.Shares.{below, share_of}
use Rattle.system_threads.proofs.crew.ChannelWorker.new.Given as goal

abbrev pub invariant-loop-unit : goal.invariant-loop-unit
invariant-loop-unit g l = record {
  of_the_site : All (λ unit. unit < g.S.Site.rows.units) l.served.items;
  share : l.served.items ≡ share_of (λ unit. unit) l.count l.number (below l.unit);
}
