use Rattle.std.proofs.Common.{◌≡◌, length}
use Rattle.std.specs.List.{All}
use Rattle.post_ledger.specs.Work.{CollectsAll}
use Rattle.post_ledger.proofs.drain.gather_all.Given as goal

abbrev pub invariant-loop-place : goal.invariant-loop-place
invariant-loop-place g l = record {
  collects : CollectsAll g.S.Site.rows.units l.fn.tasks.items l.tasks.items l.fn.posts.items l.posts.items;
  count : length l.posts.items ≡ length l.fn.posts.items;
  lists : All (λ lists. length lists ≡ g.S.Site.rows.units) l.posts.items;
}
