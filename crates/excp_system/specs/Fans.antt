-- ONE SENDER'S ENDS of several rows (profile).
use Rattle.std.specs.Prelude.{◌≡◌, ℕ, List, [], Some, slice_get, slice_index_or}
use Rattle.fifo_row.specs.Ends.{Sending}
use Rattle.excp_system.specs.Sites.{ReachedRows, end_of}

-- the number of the sender, and what it sent into each row
pub record FanState (I : Type 0) : Type 0 where
  pub number : ℕ
  pub sent : List (List I)

-- what was sent into row k
abbrev pub sent_to : {I : Type 0} → FanState I → ℕ → List I
sent_to f k = slice_index_or f.sent k []

-- the ends are those of the sender with this number, each of the row of its index
abbrev pub IsFan : {I : Type 0} → ReachedRows → ℕ → List (Sending I) → Type 0
IsFan {I} r number ends = (k : ℕ) (s : Sending I) → slice_get ends k ≡ Some s → s ≡ end_of r number k s.sent
