-- The join that meets a sender which has ended keeps the rule.
use Rattle.std.proofs.Common.{◌≡◌, ◌≢◌, ℕ, ◌<◌, List, ◌∷◌, ◌++◌, set, refl, ap, sym, ◌∙◌, subst, ⊎_elim, arith, None, Option}
use mathlib.Core.Option.{some}
use mathlib.Core.Logic.{dite}
use native.Mathlib.Decide.{dec_le, ℕ_discrete}
use lib.ListN.{get_elem?}
use Rattle.crossbeam_queue.specs.Fifo.{Merges}
use Rattle.crossbeam_queue.proofs.Lists.{at_set}
use Rattle.fifo_row.specs.declared.view.RowView.{RowView}
use Rattle.fifo_row.specs.Lists.{of_sender}
use Rattle.fifo_row.specs.Views.{sender_view, taker_view, spent_view}
use Rattle.fifo_row.specs.Rule.{FitsSender, FitsTaker, PassFits, Fair, Kept}
use Rattle.fifo_row.proofs.Places.{all_set, met_cons}
use Rattle.fifo_row.proofs.Fitting.{not_none, as_taker, spent_fits, apart}
use Rattle.fifo_row.proofs.Seating.{seat_with, seat-same, seat-other}

module _ {I : Type 0} (from : I → ℕ) (fact : I → ℕ → ℕ → ℕ → Type 0) where
  module _ (tag reader : ℕ) (seat : ℕ → Option ℕ) (all taken : List I) (pass t made : ℕ) (got : List I) (met : List (ℕ × List I))
      (other t' number : ℕ) (sent : List I)
      (mine : FitsTaker from tag reader seat all taken pass (taker_view t made got met))
      (theirs : FitsSender from tag seat all other (sender_view t' number sent)) where
    abbrev seats : ℕ → Option ℕ
    seats = seat_with seat number None

    empty : (k : ℕ) → seat k ≡ None → seats k ≡ None
    empty k e = dite (ℕ_discrete k number) (λ s. ap seats s ∙ seat-same seat number None) (λ ne. seat-other seat number None k ne ∙ e)

    below : number < made
    below = dite (dec_le made number) (λ le. not_none other (sym theirs.here ∙ (mine.later number le).0)) (λ gt. omega (arith, gt))

    -- the taker, which has met one sender more
    met_one : FitsTaker from tag reader seats all taken pass (taker_view t made got ((number, sent) ∷ met))
    met_one = record {
      here = mine.here;
      tag_is = mine.tag_is;
      taken_is = mine.taken_is;
      later = λ k h. let l = mine.later k h in (empty k l.0, l.1);
      ended = λ k xs m. ⊎_elim
          (λ (new : (k ≡ number) × (sent ≡ xs)). (
            subst (λ i. i < made) (sym new.0) below,
            ap seats new.0 ∙ seat-same seat number None,
            ap (λ i. of_sender from i all) new.0
                ∙ (theirs.sent_is ∙ new.1),
          ))
          (λ old. let l = mine.ended k xs old in (l.0, empty k l.1, l.2))
          (met_cons met number k sent xs m);
    }

    -- another pass is no taker, and a sender's that was not met
    others : (j : ℕ) (u : RowView I) → j ≢ pass → PassFits from tag reader seat all taken j u → j ≢ other →
        PassFits from tag reader seats all taken j u
    others j u ne old away = record {
      as_sender = λ p.
          let s = old.as_sender p in
          record {
            here = seat-other seat number None u.number (apart from tag seat all other number j u theirs.here s away)
                ∙ s.here;
            tag_is = s.tag_is;
            sent_is = s.sent_is;
          };
      as_taker = λ p. absurd (ne ((old.as_taker p).here ∙ sym mine.here));
    }

    meets_fair : (views : List (RowView I)) → Fair from fact tag reader seat all taken views →
        Fair from fact tag reader seats all taken (set (set views pass (taker_view t made got ((number, sent) ∷ met))) other spent_view)
    meets_fair views f =
        let both : RowView I = taker_view t made got ((number, sent) ∷ met) in
        let unless_spent : ℕ → RowView I → Type 0 = λ j u. j ≢ other → PassFits from tag reader seats all taken j u in
        let first : (j : ℕ) (u : RowView I) → get_elem? (set views pass both) j ≡ some u → unless_spent j u =
        all_set unless_spent views pass both
        (λ _. as_taker from tag reader seats all taken pass t made got ((number, sent) ∷ met) met_one)
        (λ j u ne e away. others j u ne (f.fits j u e) away) in
        record {
          lawful = f.lawful;
          few = f.few;
          fits = all_set (PassFits from tag reader seats all taken) (set views pass both) other spent_view
              (spent_fits from tag reader seats all taken other) (λ j u ne e. first j u e ne);
        }

  meets : (pass t made : ℕ) (got : List I) (met : List (ℕ × List I)) (other t' number : ℕ) (sent : List I)
      → Merges (Kept from fact) pass (taker_view t made got met) other (sender_view t' number sent)
      (taker_view t made got ((number, sent) ∷ met)) spent_view
  meets pass t made got met other t' number sent items views h at apart' at' =
      let both : RowView I = taker_view t made got ((number, sent) ∷ met) in
      let was : get_elem? views other ≡ some (sender_view t' number sent) =
      ⊎_elim (λ x. absurd (apart' x.0)) (λ x. x.1) (at_set views pass other both (sender_view t' number sent) at') in
      let mine = (h.fair.fits pass (taker_view t made got met) at).as_taker refl in
      let theirs = (h.fair.fits other (sender_view t' number sent) was).as_sender refl in
      record {
        tag = h.tag;
        reader = h.reader;
        seat = seat_with h.seat number None;
        taken = h.taken;
        fair = meets_fair h.tag h.reader h.seat (h.taken ++ items) h.taken pass t made got met other t' number sent mine theirs views
            h.fair;
      }

  -- the step, at views that are the taker's and a sender's
  pub meets_as : (pass : ℕ) (v : RowView I) (t made other : ℕ) (u : RowView I) (t' number : ℕ) (sent : List I) →
      v ≡ taker_view t made v.taken v.met → u ≡ sender_view t' number sent
      → Merges (Kept from fact) pass v other u (taker_view v.tag v.made v.taken ((u.number, u.sent) ∷ v.met)) spent_view
  meets_as pass v t made other u t' number sent is is' =
      subst (λ (p : RowView I × RowView I). Merges (Kept from fact) pass p.0 other p.1
      (taker_view p.0.tag p.0.made p.0.taken ((p.1.number, p.1.sent) ∷ p.0.met)) spent_view) (λ i. (sym is i, sym is' i))
      (meets pass t made v.taken v.met other t' number sent)
