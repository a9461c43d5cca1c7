use Rattle.std.proofs.Common.{◌≡◌, ◌<◌, ℕ, [], length, Some}
use Rattle.std.specs.Prelude.{slice_get}
use Rattle.crossbeam_queue.specs.Passes.{IsPassOf, ruled_capacity}
use Rattle.fifo_row.specs.Ends.{fresh_sender, unseated}
use Rattle.fifo_row.specs.Views.{known, taker_view}
use Rattle.fifo_row.proofs.row.seat_all.Given as goal

-- the tag of this row
abbrev pub ghosts-seat_next : goal.ghosts-seat_next
ghosts-seat_next g a = record { tag = a.tag }

abbrev pub invariant-loop-number : goal.invariant-loop-number
invariant-loop-number g l = record {
  pass : IsPassOf l.queue l.pass × (known l.pass ≡ taker_view (known l.pass).tag l.number [] []);
  tagged : 0 < l.number → (known l.pass).tag ≡ l.tag;
  count : length l.ends.items ≡ l.number;
  each : (k : ℕ) → k < l.number → slice_get l.ends.items k ≡ Some
      (fresh_sender (unseated l.queue.table.shared.table_id (ruled_capacity l.queue) l.tag l.senders) k);
}
