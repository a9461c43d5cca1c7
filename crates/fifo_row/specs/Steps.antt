-- What the steps of a row tell the thread that makes them. Profile.
--
-- There are six kinds: a push that enters, which adds to what the sender sent; a push that finds the row full, and a
-- pop that finds it empty, which change nothing; a pop that takes, which adds to what was taken; the split that seats a
-- sender; and the join that meets one that has ended.
use Rattle.std.specs.Prelude.{◌≡◌, ℕ, suc, ◌<◌, ◌^◌, List, [], ◌∷◌, ◌++◌, length}
use mathlib.Core.Option.{some}
use lib.ListN.{get_elem?}
use Rattle.fifo_row.specs.declared.view.RowView.{RowView}
use Rattle.fifo_row.specs.Lists.{of_sender}
use Rattle.fifo_row.specs.Ends.{Sending, Taking}
use Rattle.fifo_row.specs.Views.{sender_view, taker_view}
use Rattle.fifo_row.specs.Rule.{Kept}

-- a push that enters: the item is after all that this sender sent
abbrev pub Sends : {I : Type 0} → RowView I → I → RowView I → Type 0
Sends v x w = w ≡ sender_view v.tag v.number (v.sent ++ x ∷ [])

module _ {I : Type 0} (from : I → ℕ) (fact : I → ℕ → ℕ → ℕ → Type 0) where
  -- a pop that takes: the item is after all that was taken, is of one of the senders, and has its fact at its position
  abbrev pub TakesItem : RowView I → I → RowView I → Type 0
  TakesItem v x w =
      (w ≡ taker_view v.tag v.made (v.taken ++ x ∷ []) v.met)
      × (from x < v.made)
      × fact x (from x) (suc (length (of_sender from (from x) v.taken))) v.tag
      × (length (of_sender from (from x) v.taken) < 2 ^ 62)

  -- a state of the rule in which the row holds these items, and a pass knows this
  abbrev pub IsState : RowView I → List I → Type 0
  IsState v items = (views : List (RowView I)) × (pass : ℕ) × Kept from fact items views × (get_elem? views pass ≡ some v)

  -- at one moment, in a state of the rule in which this sender had sent what it has, the row held as many items as it
  -- has room
  abbrev pub WasFull : Sending I → Type 0
  WasFull s = (items : List I) × (length items ≡ s.capacity) × IsState (sender_view s.tag s.number s.sent) items

  -- at one moment, in a state of the rule in which the taker had taken and met what it has, the row held nothing
  abbrev pub WasEmpty : Taking I → Type 0
  WasEmpty t = IsState (taker_view t.tag t.senders t.taken t.met) []
