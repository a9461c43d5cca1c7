-- The ends of several rows, and what has come of them.
use Rattle.std.specs.Prelude.{◌≡◌, ◌+◌, ℕ, List, length, take, Some, slice_get}
use Rattle.fifo_row.specs.Ends.{Taking}
use Rattle.fifo_row.specs.Lists.{of_sender}
use Rattle.excp_system.specs.Sites.{ReachedRows}
use Rattle.excp_system.specs.Fans.{FanState, sent_to}

-- the fan has its ends up to k, is at the index of its number, and as many items were taken from row k as it sent
-- into it
pub record IsFanDrained {I : Type 0} (from : I → ℕ) (taken : List I) (k t : ℕ) (f : FanState I) : Type 0 where
  pub number_is : f.number ≡ t
  pub ends : length f.sent ≡ k + 1
  pub drained : length (sent_to f k) ≡ length (of_sender from t taken)

-- each fan is drained of the items for row k
abbrev pub AreDrained : {I : Type 0} → (I → ℕ) → List I → ℕ → List (FanState I) → Type 0
AreDrained {I} from taken k fans = (t : ℕ) (f : FanState I) → slice_get fans t ≡ Some f → IsFanDrained from taken k t f

-- the fan with its first k ends
abbrev pub shorter : {I : Type 0} → ℕ → FanState I → FanState I
shorter k f = record { number = f.number; sent = take k f.sent }

-- all ends of several rows: each taker is on the row of its index, each fan is at the index of its number with an
-- end of each row, and as many items were taken as sent
pub record AreEnds {I : Type 0} (from : I → ℕ) (r : ReachedRows) (takers : List (Taking I)) (fans : List (FanState I)) : Type 0 where
  pub rows : (k : ℕ) (w : Taking I) → slice_get takers k ≡ Some w → w.row ≡ r.row k
  pub numbers : (t : ℕ) (f : FanState I) → slice_get fans t ≡ Some f →
      (f.number ≡ t) × (length f.sent ≡ length takers)
  pub drained : (k t : ℕ) (w : Taking I) (f : FanState I) → slice_get takers k ≡ Some w → slice_get fans t ≡ Some f →
      length (sent_to f k) ≡ length (of_sender from t w.taken)

-- of each sender, what was taken from each row is what it sent into it
abbrev pub AllTaken : {I : Type 0} → (I → ℕ) → List (Taking I) → List (FanState I) → Type 0
AllTaken {I} from takers fans = (k t : ℕ) (w : Taking I) (f : FanState I) →
    slice_get takers k ≡ Some w → slice_get fans t ≡ Some f → of_sender from t w.taken ≡ sent_to f k
