-- What the rule of a row says between any two steps.
use Rattle.std.proofs.Common.{◌≡◌, ℕ, List, ◌++◌, ap, sym, ◌∙◌, subst}
use Rattle.fifo_row.specs.declared.view.RowView.{RowView}
use Rattle.fifo_row.specs.Lists.{of_sender, HaveFacts}
use Rattle.fifo_row.specs.Rule.{FitsTaker}
use Rattle.fifo_row.specs.Flows.{IsTaker, SeatedFlows, MetFlows, OfSenders, KeepsFacts}

module _ {I : Type 0} (from : I → ℕ) (fact : I → ℕ → ℕ → ℕ → Type 0) where
  -- the taker's seat
  seat_of : (items : List I) (views : List (RowView I)) (v : RowView I) → (t : IsTaker from fact items views v) →
      FitsTaker from t.kept.tag t.kept.reader t.kept.seat (t.kept.taken ++ items) t.kept.taken t.pass v
  seat_of items views v t = (t.kept.fair.fits t.pass v t.at).as_taker t.takes

  -- what was taken of sender k and is held, as the taker knows it
  of_all : (items : List I) (views : List (RowView I)) (v : RowView I) (t : IsTaker from fact items views v) (k : ℕ) →
      of_sender from k (v.taken ++ items) ≡ of_sender from k (t.kept.taken ++ items)
  of_all items views v t k = ap (λ l. of_sender from k (l ++ items)) (seat_of items views v t).taken_is

  pub seated_flows : SeatedFlows from fact
  seated_flows items views v w pass t at sends = of_all items views v t w.number ∙ ((t.kept.fair.fits pass w at).as_sender sends).sent_is

  pub met_flows : MetFlows from fact
  met_flows items views v k sent t m = of_all items views v t k ∙ ((seat_of items views v t).ended k sent m).2

  pub of_senders : OfSenders from fact
  of_senders items views v k t later = of_all items views v t k ∙ ((seat_of items views v t).later k later).1

  pub keeps_facts : KeepsFacts from fact
  keeps_facts items views v k t some_made =
      subst (λ tag. HaveFacts fact tag k (of_sender from k (v.taken ++ items))) (sym ((seat_of items views v t).tag_is some_made))
      (subst (HaveFacts fact t.kept.tag k) (sym (of_all items views v t k)) (t.kept.fair.lawful k))
