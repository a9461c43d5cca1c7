-- WHAT A UNIT'S ROWS HOLD at any moment, beside what its lock keeps (profile). In what follows a row is in a state of
-- its rule, holds these items, and has a taker that knows v and a sender that has its seat and knows w.
use Rattle.std.specs.Prelude.{◌≡◌, ℕ, List, ◌++◌, true}
use mathlib.Core.Option.{some}
use lib.ListN.{get_elem?}
use Rattle.device_port.specs.Meaning.{Meaning}
use Rattle.request_piece.specs.PostedState.{PostedState}
use Rattle.request_piece.specs.declared.piece.Piece.{Piece}
use Rattle.unit_book.specs.Book.{Book, given}
use Rattle.unit_book.specs.Posts.{posted}
use Rattle.unit_book.specs.Trace.{arrivals}
use Rattle.fifo_row.specs.declared.view.RowView.{RowView}
use Rattle.fifo_row.specs.Flows.{IsTaker}
use Rattle.fifo_row.specs.Lists.{of_sender, Met}
use Rattle.excp_system.specs.Sites.{RequestFact, NoFact, task_of, unit_of, for_task}

module _ {D : Type 0} (meaning : Meaning D) where
  -- if what arrived at the book is what was taken, then of each task what arrived and what is in flight is what it
  -- sent: while it has its seat, and after it was met
  abbrev pub IntakeFlows : Type 0
  IntakeFlows = (b : Book D) (items : List Piece) (views : List (RowView Piece)) (v w : RowView Piece) (pass : ℕ) →
      IsTaker task_of RequestFact items views v → get_elem? views pass ≡ some w → w.sends ≡ true → v.taken ≡ arrivals b.trace →
      of_sender task_of w.number (arrivals b.trace ++ items) ≡ w.sent

  -- the same after the seat of the task was met
  abbrev pub MetIntakeFlows : Type 0
  MetIntakeFlows = (b : Book D) (items : List Piece) (views : List (RowView Piece)) (v : RowView Piece) (task : ℕ) (sent : List Piece) →
      IsTaker task_of RequestFact items views v → Met v.met task sent → v.taken ≡ arrivals b.trace →
      of_sender task_of task (arrivals b.trace ++ items) ≡ sent

  -- the unit has sent this of a task's values: what its book gave of them; and the book is sound
  pub record HasSent (b : Book D) (task : ℕ) (sent : List PostedState) : Type 0 where
    pub sent_is : sent ≡ of_sender for_task task (given meaning b)
    pub given_is : given meaning b ++ b.out ≡ posted meaning b.mounted b.trace

  -- then what was posted of the task is what it collected of the unit, and then what is on its way back, and then what
  -- is out: while the unit has its seat, and after it was met
  abbrev pub PostFlows : Type 0
  PostFlows = (b : Book D) (task : ℕ) (items : List PostedState) (views : List (RowView PostedState)) →
      (v w : RowView PostedState) (pass : ℕ) →
      IsTaker unit_of NoFact items views v → get_elem? views pass ≡ some w → w.sends ≡ true → HasSent b task w.sent →
      of_sender for_task task (posted meaning b.mounted b.trace) ≡ of_sender unit_of w.number (v.taken ++ items) ++ of_sender for_task task b.out

  -- the same after the seat of the unit was met
  abbrev pub MetPostFlows : Type 0
  MetPostFlows = (b : Book D) (task unit : ℕ) (items : List PostedState) (views : List (RowView PostedState)) (v : RowView PostedState)
      (sent : List PostedState) →
      IsTaker unit_of NoFact items views v → Met v.met unit sent → HasSent b task sent →
      of_sender for_task task (posted meaning b.mounted b.trace) ≡ of_sender unit_of unit (v.taken ++ items) ++ of_sender for_task task b.out
