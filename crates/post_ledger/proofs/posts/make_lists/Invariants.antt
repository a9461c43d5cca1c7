use Rattle.std.proofs.Common.{◌≡◌, ◌≤◌, ℕ, length}
use Rattle.std.specs.List.{All}
use Rattle.post_ledger.specs.Work.{list_of, lists_of}
use Rattle.post_ledger.proofs.posts.make_lists.Given as goal

abbrev pub invariant-loop : goal.invariant-loop
invariant-loop l = record {
  count : length l.posts.items ≡ l.counter;
  few : l.counter ≤ l.tasks;
  lists : All (λ lists. length lists ≡ l.units) l.posts.items;
  values : (task unit : ℕ) → list_of (lists_of l.posts.items task) unit ≡ list_of (lists_of l.fn.posts.items task) unit;
}
