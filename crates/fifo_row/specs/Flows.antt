-- What the rule of a row says of it between any two steps. Profile.
use Rattle.std.specs.Prelude.{◌≡◌, ℕ, ◌≤◌, ◌<◌, List, [], ◌++◌, true}
use mathlib.Core.Option.{some}
use lib.ListN.{get_elem?}
use Rattle.fifo_row.specs.declared.view.RowView.{RowView}
use Rattle.fifo_row.specs.Lists.{of_sender, HaveFacts, Met}
use Rattle.fifo_row.specs.Rule.{Kept}

module _ {I : Type 0} (from : I → ℕ) (fact : I → ℕ → ℕ → ℕ → Type 0) where
  -- the row holds these items, and the taker's pass knows this
  pub record IsTaker (items : List I) (views : List (RowView I)) (v : RowView I) : Type 0 where
    pub kept : Kept from fact items views
    pub pass : ℕ
    pub at : get_elem? views pass ≡ some v
    pub takes : v.takes ≡ true

  -- what was taken of a sender that has its seat, and then what the row holds of it, is what it sent
  abbrev pub SeatedFlows : Type 0
  SeatedFlows = (items : List I) (views : List (RowView I)) (v w : RowView I) (pass : ℕ) → IsTaker items views v →
      get_elem? views pass ≡ some w → w.sends ≡ true → of_sender from w.number (v.taken ++ items) ≡ w.sent

  -- what was taken of a sender that was met, and then what the row holds of it, is all that it had sent
  abbrev pub MetFlows : Type 0
  MetFlows = (items : List I) (views : List (RowView I)) (v : RowView I) (k : ℕ) (sent : List I) → IsTaker items views v →
      Met v.met k sent →
      of_sender from k (v.taken ++ items) ≡ sent

  -- nothing that was taken or is held is of a sender that the row has not
  abbrev pub OfSenders : Type 0
  OfSenders = (items : List I) (views : List (RowView I)) (v : RowView I) (k : ℕ) → IsTaker items views v → v.made ≤ k →
      of_sender from k (v.taken ++ items) ≡ []

  -- each item that was taken or is held has its fact, at its position among its sender's
  abbrev pub KeepsFacts : Type 0
  KeepsFacts = (items : List I) (views : List (RowView I)) (v : RowView I) (k : ℕ) → IsTaker items views v → 0 < v.made →
      HaveFacts fact v.tag k (of_sender from k (v.taken ++ items))
