use Rattle.std.proofs.Common.{◌≡◌, ◌<◌, ℕ, Some, Vec, Global, length}
use Rattle.std.specs.Prelude.{slice_get, vec_capacity, vec_len}
use Rattle.request_piece.specs.PostedState.{PostedState}
use Rattle.post_ledger.specs.Work.{items_of_all}
use Rattle.post_ledger.proofs.posts.make_room.Given as goal

abbrev pub invariant-loop-place : goal.invariant-loop-place
invariant-loop-place l = record {
  values : items_of_all l.lists.items ≡ items_of_all l.fn.lists.items;
  count : length l.lists.items ≡ length l.fn.lists.items;
  room : (k : ℕ) (list : Vec PostedState Global) → k < l.place → slice_get l.lists.items k ≡ Some list → vec_len list < vec_capacity list;
}
