-- Rows that get their ends.
use Rattle.std.proofs.Common.{◌≡◌, ◌≢◌, ⊎_elim, ℕ, ◌+◌, ◌<◌, ◌≤◌, List, [], ◌∷◌, ◌++◌, length, set, get_or, replicate, Some, refl, sym, ap}
use Rattle.std.proofs.Common.{◌∙◌, arith}
use Rattle.std.specs.Prelude.{slice_get}
use Rattle.std.proofs.lemmas.Option.{slice_get-get_or, slice_get_within}
use Rattle.std.proofs.lemmas.List.{length-set, length-replicate}
use mathlib.Core.Logic.{dite}
use native.Mathlib.Decide.{ℕ_discrete}
use Rattle.fifo_row.specs.Ends.{Sending, Taking, Fresh, Seats, unseated, fresh_sender, fresh_taker}
use Rattle.excp_system.specs.Sites.{ReachedRows, end_of, taker_of}
use Rattle.excp_system.specs.Fans.{FanState}
use Rattle.excp_system.specs.Opening.{AreFans, AreTakers}
use Rattle.excp_system.proofs.Places.{get_set_same, get_set_other, get_snoc, replicate_more, some_is}

-- the first `dealt` fans have got their end of the row at this place
pub record Dealt {I : Type 0} (count place dealt : ℕ) (fans : List (FanState I)) : Type 0 where
  pub count_is : length fans ≡ count
  pub before : (j : ℕ) (f : FanState I) → j < dealt → slice_get fans j ≡ Some f → f ≡ record { number = j; sent = replicate (place + 1) [] }
  pub after : (j : ℕ) (f : FanState I) → dealt ≤ j → slice_get fans j ≡ Some f → f ≡ record { number = j; sent = replicate place [] }

module _ {I : Type 0} (count place dealt : ℕ) (fans : List (FanState I)) (d : Dealt count place dealt fans) where
  pub dealt_end : count ≤ dealt → AreFans count (place + 1) fans
  dealt_end le = record { count_is = d.count_is; each = λ j f e. d.before j f (omega (arith, slice_get_within fans j f e, d.count_is)) e }

  module _ (f : FanState I) (lt : dealt < length fans) (at : f ≡ get_or fans dealt f) where
    fan_is : f ≡ record { number = dealt; sent = replicate place [] }
    fan_is = d.after dealt f (omega arith) (slice_get-get_or fans dealt f lt ∙ ap Some (sym at))

    pub dealt_next : (s : List I) (new : FanState I) → s ≡ [] → new ≡ record { number = f.number; sent = f.sent ++ s ∷ [] } →
        Dealt count place (dealt + 1) (set fans dealt new)
    dealt_next s new none is =
        let new_is : new ≡ record { number = dealt; sent = replicate (place + 1) [] } =
        is ∙ (λ i. record { number = (fan_is i).number; sent = (fan_is i).sent ++ none i ∷ [] })
        ∙ (λ i. record { number = dealt; sent = replicate_more place [] i }) in
        record {
          count_is = length-set fans dealt new ∙ d.count_is;
          before = λ j g below e. dite (ℕ_discrete j dealt)
              (λ same. some_is g new (sym e ∙ (ap (slice_get (set fans dealt new)) same ∙ get_set_same fans dealt new lt))
              ∙ (new_is ∙ λ i. record { number = sym same i; sent = replicate (place + 1) [] }))
              (λ ne. d.before j g (omega (arith, ne)) (sym (get_set_other fans dealt j new ne) ∙ e));
          after = λ j g above e. let ne : j ≢ dealt = λ same. absurd (omega (arith, same)) in d.after j g (omega arith)
              (sym (get_set_other fans dealt j new ne) ∙ e);
        }

    pub end_is : (r : ReachedRows) (s : Sending I) → s ≡ end_of r dealt place [] → s ≡ end_of r f.number (length f.sent) s.sent
    end_is r s is =
        let number : dealt ≡ f.number = sym (ap (λ (g : FanState I). g.number) fan_is) in
        let reached : place ≡ length f.sent = sym (ap (λ (g : FanState I). length g.sent) fan_is ∙ length-replicate place []) in
        is ∙ (λ i. end_of r (number i) (reached i) (sym (ap (λ (x : Sending I). x.sent) is) i))

-- the ends that a row gives, at its place among the rows that are reached
module _ {I : Type 0} (r : ReachedRows) (count place : ℕ) (row : Fresh) (is : row ≡ unseated (r.row place) r.capacity place count)
    (ends : List (Sending I)) (taker : Taking I) (seats : Seats ends taker row) where
  pub seat_count : length ends ≡ count
  seat_count = seats.count ∙ ap (λ (f : Fresh). f.senders) is

  pub seat_ends : (t : ℕ) (s : Sending I) → slice_get ends t ≡ Some s → s ≡ end_of r t place []
  seat_ends t s e =
      let lt : t < row.senders = omega (arith, slice_get_within ends t s e, seats.count) in
      some_is s (fresh_sender row t) (sym e ∙ seats.each t lt) ∙ ap (λ (f : Fresh). fresh_sender f t) is

  pub takers_next : (takers : List (Taking I)) → length takers ≡ place → AreTakers r count (length takers) takers →
      AreTakers r count (length (takers ++ taker ∷ [])) (takers ++ taker ∷ [])
  takers_next takers here old = record {
    count_is = refl;
    each = λ j w e. ⊎_elim (λ t. old.each j w t)
        (λ (t : (j ≡ length takers) × (taker ≡ w)).
        sym t.1 ∙ (seats.taker_is ∙ (ap (λ (f : Fresh). fresh_taker f) is ∙ ap (λ i. taker_of r count i []) (sym (t.0 ∙ here)))))
        (get_snoc takers taker w j e);
  }
