-- A push that enters keeps the rule.
use Rattle.std.proofs.Common.{◌≡◌, ◌≢◌, ℕ, suc, ◌<◌, ◌≤◌, ◌^◌, List, [], ◌∷◌, ◌++◌, length, set, refl, ap, sym, ◌∙◌, subst, arith, None}
use Rattle.std.proofs.Common.{Option, append_assoc, length-append}
use mathlib.Core.Logic.{dite}
use native.Mathlib.Decide.{ℕ_discrete}
use Rattle.crossbeam_queue.specs.Fifo.{Pushes}
use Rattle.fifo_row.specs.declared.view.RowView.{RowView}
use Rattle.fifo_row.specs.Lists.{of_sender, HaveFacts}
use Rattle.fifo_row.specs.Views.{sender_view}
use Rattle.fifo_row.specs.Rule.{FitsSender, FitsTaker, PassFits, Fair, Kept}
use Rattle.fifo_row.specs.Steps.{Sends}
use Rattle.fifo_row.proofs.Filters.{of-snoc_same, of-snoc_other}
use Rattle.fifo_row.proofs.Places.{all_set, lawful_snoc}
use Rattle.fifo_row.proofs.Fitting.{not_none, as_sender, apart}

module _ {I : Type 0} (from : I → ℕ) (fact : I → ℕ → ℕ → ℕ → Type 0) where
  module _ (tag reader : ℕ) (seat : ℕ → Option ℕ) (all taken : List I) (pass t number : ℕ) (sent : List I) (x : I) (is : from x ≡ number)
      (mine : FitsSender from tag seat all pass (sender_view t number sent)) where
    of_mine : of_sender from number (all ++ x ∷ []) ≡ sent ++ x ∷ []
    of_mine = of-snoc_same from number x all is ∙ ap (λ l. l ++ x ∷ []) mine.sent_is

    of_other : (k : ℕ) → k ≢ number → of_sender from k (all ++ x ∷ []) ≡ of_sender from k all
    of_other k ne = of-snoc_other from k x all (λ e. ne (sym e ∙ is))

    -- a fact of each sender's items stays if it holds of this sender's with x behind them
    each : (P : ℕ → List I → Type 0) → P number (sent ++ x ∷ []) → ((k : ℕ) → P k (of_sender from k all)) → (k : ℕ) →
        P k (of_sender from k (all ++ x ∷ []))
    each P new old k = dite (ℕ_discrete k number)
        (λ e. subst (λ j. P j (of_sender from j (all ++ x ∷ []))) (sym e) (subst (P number) (sym of_mine) new))
        (λ ne. subst (P k) (sym (of_other k ne)) (old k))

    -- another sender's pass, and the taker's
    other_sender : (j : ℕ) (u : RowView I) → j ≢ pass → FitsSender from tag seat all j u → FitsSender from tag seat (all ++ x ∷ []) j u
    other_sender j u ne s =
        record {
          here = s.here;
          tag_is = s.tag_is;
          sent_is = of_other u.number (apart from tag seat all pass number j u mine.here s ne)
              ∙ s.sent_is;
        }

    free : (k : ℕ) → seat k ≡ None → k ≢ number
    free k none same = not_none pass (sym mine.here ∙ (ap seat (sym same) ∙ none))

    the_taker : (j : ℕ) (u : RowView I) → FitsTaker from tag reader seat all taken j u →
        FitsTaker from tag reader seat (all ++ x ∷ []) taken j u
    the_taker j u r = record {
      here = r.here;
      tag_is = r.tag_is;
      taken_is = r.taken_is;
      later = λ k h. let l = r.later k h in (l.0, of_other k (free k l.0) ∙ l.1);
      ended = λ k xs m. let l = r.ended k xs m in (l.0, l.1, of_other k (free k l.1) ∙ l.2);
    }

    sends_fair : (views : List (RowView I)) → Fair from fact tag reader seat all taken views → fact x number (suc (length sent)) t →
        length sent < 2 ^ 62
        → Fair from fact tag reader seat (all ++ x ∷ []) taken (set views pass (sender_view t number (sent ++ x ∷ [])))
    sends_fair views f it few =
        let lawful : HaveFacts fact tag number sent = subst (HaveFacts fact tag number) mine.sent_is (f.lawful number) in
        let it' : fact x number (suc (length sent)) tag = subst (λ j. fact x number (suc (length sent)) j) mine.tag_is it in
        record {
          lawful = each (HaveFacts fact tag) (lawful_snoc fact tag number sent x lawful it') f.lawful;
          few = each (λ k l. length l ≤ 2 ^ 62) (omega (arith, length-append sent (x ∷ []))) f.few;
          fits = all_set (PassFits from tag reader seat (all ++ x ∷ []) taken) views pass (sender_view t number (sent ++ x ∷ []))
              (as_sender from tag reader seat (all ++ x ∷ []) taken pass t number (sent ++ x ∷ [])
              (record { here = mine.here; tag_is = mine.tag_is; sent_is = of_mine }))
              (λ j u ne e. let old =
              f.fits j u e in record {
                as_sender = λ p. other_sender j u ne (old.as_sender p);
                as_taker =
                    λ p. the_taker j u (old.as_taker p);
              });
        }

  sends : (n pass t number : ℕ) (sent : List I) (x : I) → from x ≡ number → fact x number (suc (length sent)) t → length sent < 2 ^ 62
      → Pushes (Kept from fact) n pass (sender_view t number sent) x (Sends (sender_view t number sent) x)
  sends n pass t number sent x is it few items views room h at =
      let w : RowView I = sender_view t number (sent ++ x ∷ []) in
      let mine = (h.fair.fits pass (sender_view t number sent) at).as_sender refl in (
        w,
        record {
          tag = h.tag;
          reader = h.reader;
          seat = h.seat;
          taken = h.taken;
          fair = subst (λ l. Fair from fact h.tag h.reader h.seat l h.taken (set views pass w)) (append_assoc h.taken items (x ∷ []))
              (sends_fair h.tag h.reader h.seat (h.taken ++ items) h.taken pass t number sent x is mine views h.fair it few);
        },
        refl,
      )

  -- the step, at a view that is a sender's
  pub sends_as : (n pass : ℕ) (v : RowView I) (t number : ℕ) (x : I) → v ≡ sender_view t number v.sent → from x ≡ number →
      fact x number (suc (length v.sent)) t → length v.sent < 2 ^ 62
      → Pushes (Kept from fact) n pass v x (Sends v x)
  sends_as n pass v t number x is from_is it few =
      subst (λ (u : RowView I). Pushes (Kept from fact) n pass u x (Sends u x)) (sym is) (sends n pass t number v.sent x from_is it few)
