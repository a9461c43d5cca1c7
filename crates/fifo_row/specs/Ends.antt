-- A row and its ends, as contracts see them. Profile.
use Rattle.std.specs.Prelude.{◌≡◌, ◌<◌, ℕ, suc, List, [], length, Bool, false, Some, slice_get}
use Rattle.atomic_table.specs.Seated.{TableId}
use Rattle.fifo_row.specs.Lists.{of_sender, Met}

-- which row it is
abbrev pub RowName : Type 0
RowName = TableId

-- the name of no row, if a row is picked only later
abbrev pub no_name : RowName
no_name = record { words = 0; slots = 0; views_name = 0; atom = 0; block = 0; offset = 0; slot_names = [] }

-- a row: how many items it holds at most, whose row it is, how many senders it has, and whether its ends were given out
pub record Fresh : Type 0 where
  pub row : RowName
  pub capacity : ℕ
  pub tag : ℕ
  pub senders : ℕ
  pub seated : Bool

-- a row whose ends were not given out
abbrev pub unseated : RowName → ℕ → ℕ → ℕ → Fresh
unseated row capacity tag senders = record { row = row; capacity = capacity; tag = tag; senders = senders; seated = false }

-- the seat of a sender: its number, and what it sent
pub record Sending (I : Type 0) : Type 0 where
  pub row : RowName
  pub capacity : ℕ
  pub tag : ℕ
  pub number : ℕ
  pub sent : List I

-- the seat of the taker: what it took, and the senders that it met, the last in front, each with all that it sent
pub record Taking (I : Type 0) : Type 0 where
  pub row : RowName
  pub capacity : ℕ
  pub tag : ℕ
  pub senders : ℕ
  pub taken : List I
  pub met : List (ℕ × List I)

-- a sender that has sent nothing
abbrev pub first_sending : {I : Type 0} → RowName → ℕ → ℕ → ℕ → Sending I
first_sending row capacity tag number = record { row = row; capacity = capacity; tag = tag; number = number; sent = [] }

-- a taker that has taken nothing and met nobody
abbrev pub first_taking : {I : Type 0} → RowName → ℕ → ℕ → ℕ → Taking I
first_taking row capacity tag senders = record { row = row; capacity = capacity; tag = tag; senders = senders; taken = []; met = [] }

-- the sender k of a row
abbrev pub fresh_sender : {I : Type 0} → Fresh → ℕ → Sending I
fresh_sender r k = first_sending r.row r.capacity r.tag k

-- the taker of a row
abbrev pub fresh_taker : {I : Type 0} → Fresh → Taking I
fresh_taker r = first_taking r.row r.capacity r.tag r.senders

-- the ends of a row: its senders by number, and its taker
pub record Seats {I : Type 0} (senders : List (Sending I)) (taker : Taking I) (row : Fresh) : Type 0 where
  pub count : length senders ≡ row.senders
  pub each : (k : ℕ) → k < row.senders → slice_get senders k ≡ Some (fresh_sender row k)
  pub taker_is : taker ≡ fresh_taker row

-- an item is the next of its sender: that sender is of the row, and the item has its fact at the position after those that
-- were taken
pub record IsNextItem {I : Type 0} (from : I → ℕ) (fact : I → ℕ → ℕ → ℕ → Type 0) (t : Taking I) (x : I) : Type 0 where
  pub of_row : from x < t.senders
  pub lawful : fact x (from x) (suc (length (of_sender from (from x) t.taken))) t.tag

-- of each sender that was met, all was taken
abbrev pub AllEnded : {I : Type 0} → (I → ℕ) → Taking I → Type 0
AllEnded {I} from t = (k : ℕ) (sent : List I) → Met t.met k sent → of_sender from k t.taken ≡ sent
