use Rattle.std.proofs.Common.{◌≡◌, ◌≤◌, [], replicate}
use Rattle.std.specs.Prelude.{vec_capacity, vec_len}
use Rattle.post_ledger.specs.Work.{items_of_all}
use Rattle.post_ledger.proofs.posts.Posts.new.Given as goal

abbrev pub invariant-loop : goal.invariant-loop
invariant-loop l = record {
  lists : items_of_all l.lists.items ≡ replicate l.counter [];
  len : vec_len l.lists ≡ l.counter;
  room : l.units ≤ vec_capacity l.lists;
}
