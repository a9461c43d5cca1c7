use Rattle.std.proofs.Common.{◌≡◌, length}
use Rattle.std.specs.List.{All}
use Rattle.post_ledger.specs.Parting.{Paired}
use Rattle.post_ledger.specs.Work.{CollectsAll, Works}
use Rattle.post_ledger.proofs.drain.drain.Given as goal

abbrev pub invariant-loop : goal.invariant-loop
invariant-loop g l = record {
  works : Paired Works l.fn.units.items l.units.items;
  collects : CollectsAll g.S.Site.rows.units l.fn.tasks.items l.tasks.items l.fn.posts.items l.posts.items;
  count : length l.posts.items ≡ length l.fn.posts.items;
  lists : All (λ lists. length lists ≡ g.S.Site.rows.units) l.posts.items;
}
