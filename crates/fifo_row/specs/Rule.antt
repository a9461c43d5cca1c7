-- The rule of a row, which holds between any two steps of any threads. Profile.
--
-- A row holds a list of items, the oldest in front. Each sender has one seat, which knows all that it sent. The taker's
-- seat knows all that was taken, and of each sender that it met all that this one had sent. Then, for each sender, what
-- was taken of it and after that what the row holds of it is what it sent; each item is of one of the senders; and each
-- item has the fact that its type names, of its sender, its position among that sender's items counted from 1, and the
-- row's tag.
use Rattle.std.specs.Prelude.{◌≡◌, ℕ, ◌≤◌, ◌<◌, ◌^◌, List, [], ◌++◌, length, true, Option, Some, None}
use mathlib.Core.Option.{some}
use lib.ListN.{get_elem?}
use Rattle.fifo_row.specs.declared.view.RowView.{RowView}
use Rattle.fifo_row.specs.Lists.{of_sender, HaveFacts, Met}

-- In what follows `all` is what was taken, and then what the row holds; `seat k` is the pass of sender k, and none
-- before it is made and once it was met; `reader` is the taker's pass.

-- a sender's pass is the one seat of its number, and what was taken and is held of it is what it sent
pub record FitsSender {I : Type 0} (from : I → ℕ) (tag : ℕ) (seat : ℕ → Option ℕ) (all : List I) (pass : ℕ) (v : RowView I) : Type 0 where
  pub here : seat v.number ≡ Some pass
  pub tag_is : v.tag ≡ tag
  pub sent_is : of_sender from v.number all ≡ v.sent

-- the taker's pass is the only one: it knows what was taken, and the row's tag once it has made a sender; senders that
-- it has not made have sent nothing; and of each that it met, what was taken and is held is what it had sent
pub record FitsTaker {I : Type 0} (from : I → ℕ) (tag reader : ℕ) (seat : ℕ → Option ℕ) (all taken : List I) (pass : ℕ)
    (v : RowView I) : Type 0 where
  pub here : pass ≡ reader
  pub tag_is : 0 < v.made → v.tag ≡ tag
  pub taken_is : v.taken ≡ taken
  pub later : (k : ℕ) → v.made ≤ k → (seat k ≡ None) × (of_sender from k all ≡ [])
  pub ended : (k : ℕ) (sent : List I) → Met v.met k sent → (k < v.made) × (seat k ≡ None) × (of_sender from k all ≡ sent)

-- a pass that is neither a sender's nor the taker's is spent, and may know anything
pub record PassFits {I : Type 0} (from : I → ℕ) (tag reader : ℕ) (seat : ℕ → Option ℕ) (all taken : List I) (pass : ℕ)
    (v : RowView I) : Type 0 where
  pub as_sender : v.sends ≡ true → FitsSender from tag seat all pass v
  pub as_taker : v.takes ≡ true → FitsTaker from tag reader seat all taken pass v

module _ {I : Type 0} (from : I → ℕ) (fact : I → ℕ → ℕ → ℕ → Type 0) where
  -- each item has its fact, no sender's items are more than a number can count, and each pass fits
  pub record Fair (tag reader : ℕ) (seat : ℕ → Option ℕ) (all taken : List I) (views : List (RowView I)) : Type 0 where
    pub lawful : (k : ℕ) → HaveFacts fact tag k (of_sender from k all)
    pub few : (k : ℕ) → length (of_sender from k all) ≤ 2 ^ 62
    pub fits : (pass : ℕ) (v : RowView I) → get_elem? views pass ≡ some v → PassFits from tag reader seat all taken pass v

  -- the rule of a row that holds these items, and whose passes know these views
  pub record Kept (items : List I) (views : List (RowView I)) : Type 0 where
    pub tag : ℕ
    pub reader : ℕ
    pub seat : ℕ → Option ℕ
    pub taken : List I
    pub fair : Fair tag reader seat (taken ++ items) taken views
