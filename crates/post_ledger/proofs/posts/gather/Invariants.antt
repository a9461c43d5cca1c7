use Rattle.std.proofs.Common.{◌≡◌, length}
use Rattle.post_ledger.specs.Work.{Gathers, items_of_all}
use Rattle.post_ledger.proofs.posts.gather.Given as goal

abbrev pub invariant-loop : goal.invariant-loop
invariant-loop g l = record {
  gathers : Gathers g.S.Site.rows.units l.fn.task l.task (items_of_all l.fn.lists.items) (items_of_all l.lists.items);
  count : length l.lists.items ≡ g.S.Site.rows.units;
}
