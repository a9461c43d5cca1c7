-- A pop that takes keeps the rule, and what an empty row tells.
use Rattle.std.proofs.Common.{◌≡◌, ℕ, suc, ◌+◌, ◌<◌, ◌≤◌, ◌^◌, List, [], ◌∷◌, ◌++◌, length, set, refl, ap, sym, ◌∙◌, subst, arith, Option}
use Rattle.std.proofs.Common.{append_assoc, length-append}
use Rattle.std.proofs.lemmas.List.{append-nil}
use mathlib.Core.Option.{some}
use mathlib.Core.Logic.{dite}
use native.Mathlib.Decide.{dec_le}
use lib.ListN.{get_elem?}
use Rattle.crossbeam_queue.specs.Fifo.{Pops, Held}
use Rattle.fifo_row.specs.declared.view.RowView.{RowView}
use Rattle.fifo_row.specs.Lists.{of_sender, Met, BeginsWith}
use Rattle.fifo_row.specs.Ends.{Taking, AllEnded}
use Rattle.fifo_row.specs.Views.{taker_view}
use Rattle.fifo_row.specs.Rule.{PassFits, Fair, Kept}
use Rattle.fifo_row.specs.Steps.{TakesItem, IsState, WasEmpty}
use Rattle.fifo_row.proofs.Filters.{of-append, of-at}
use Rattle.fifo_row.proofs.Places.{get-seam, all_set}
use Rattle.fifo_row.proofs.Fitting.{as_taker}
use Rattle.fifo_row.proofs.Flowing.{met_flows}

module _ {I : Type 0} (from : I → ℕ) (fact : I → ℕ → ℕ → ℕ → Type 0) where
  takes_fair : (tag reader : ℕ) (seat : ℕ → Option ℕ) (all taken : List I) (views : List (RowView I)) (pass t made : ℕ) (got : List I)
      (met : List (ℕ × List I)) (x : I)
      → Fair from fact tag reader seat all taken views → get_elem? views pass ≡ some (taker_view t made got met)
      → Fair from fact tag reader seat all (taken ++ x ∷ []) (set views pass (taker_view t made (got ++ x ∷ []) met))
  takes_fair tag reader seat all taken views pass t made got met x f at =
      let mine = (f.fits pass (taker_view t made got met) at).as_taker refl in
      record {
        lawful = f.lawful;
        few = f.few;
        fits = all_set (PassFits from tag reader seat all (taken ++ x ∷ [])) views pass (taker_view t made (got ++ x ∷ []) met)
            (as_taker from tag reader seat all (taken ++ x ∷ []) pass t made (got ++ x ∷ []) met
            (record {
              here = mine.here;
              tag_is = mine.tag_is;
              taken_is = ap (λ l. l ++ x ∷ []) mine.taken_is;
              later = mine.later;
              ended =
                  mine.ended;
            }))
            (λ j u ne e. record {
              as_sender = (f.fits j u e).as_sender;
              as_taker =
                  λ p. absurd (ne (((f.fits j u e).as_taker p).here ∙ sym mine.here));
            });
      }

  takes : (pass t made : ℕ) (got : List I) (met : List (ℕ × List I)) →
      Pops (Kept from fact) pass (taker_view t made got met) (TakesItem from fact (taker_view t made got met))
  takes pass t made got met x items views h at =
      let mine = (h.fair.fits pass (taker_view t made got met) at).as_taker refl in
      let all : List I = h.taken ++ x ∷ items in
      let k : ℕ = from x in
      let standing : of_sender from k all ≡ of_sender from k got ++ x ∷ of_sender from k items = of-at from x h.taken items
      ∙ ap (λ l. of_sender from k l ++ x ∷ of_sender from k items) (sym mine.taken_is) in
      let there : get_elem? (of_sender from k all) (length (of_sender from k got)) ≡ some x = ap (λ l. get_elem? l (length (of_sender from k got))) standing
      ∙ get-seam (of_sender from k got) (of_sender from k items) x in
      let long : length (of_sender from k all) ≡ length (of_sender from k got) + length (x ∷ of_sender from k items) =
      ap length standing ∙ length-append (of_sender from k got) (x ∷ of_sender from k items) in
      let few : length (of_sender from k all) ≤ 2 ^ 62 = h.fair.few k in
      let below : k < made = dite (dec_le made k)
      (λ le. let l = mine.later k le in absurd (omega (arith, long, ap length l.1)))
      (λ gt. omega (arith, gt)) in
      let tag_is : t ≡ h.tag = mine.tag_is (omega (arith, below)) in (
        taker_view t made (got ++ x ∷ []) met,
        record {
          tag = h.tag;
          reader = h.reader;
          seat = h.seat;
          taken = h.taken ++ x ∷ [];
          fair = subst (λ l. Fair from fact h.tag h.reader h.seat l (h.taken ++ x ∷ [])
              (set views pass (taker_view t made (got ++ x ∷ []) met))) (sym (append_assoc h.taken (x ∷ []) items))
              (takes_fair h.tag h.reader h.seat all h.taken views pass t made got met x h.fair at);
        },
        (
          refl,
          below,
          subst (λ j. fact x k (suc (length (of_sender from k got))) j) (sym tag_is)
              (h.fair.lawful k (length (of_sender from k got)) x there),
          omega (arith, long, few),
        ),
      )

  -- the step, at a view that is the taker's
  pub takes_as : (pass : ℕ) (v : RowView I) (t made : ℕ) → v ≡ taker_view t made v.taken v.met →
      Pops (Kept from fact) pass v (TakesItem from fact v)
  takes_as pass v t made is = subst (λ (u : RowView I). Pops (Kept from fact) pass u (TakesItem from fact u)) (sym is)
      (takes pass t made v.taken v.met)

  none_left : (items : List I) → length items ≡ 0 → items ≡ []
  none_left [] e = refl
  none_left (x ∷ xs) e = absurd (omega arith)

  -- a pop that found nothing saw a state in which the row held nothing
  pub was_empty : (v : RowView I) (t : Taking I) → v ≡ taker_view t.tag t.senders t.taken t.met → Held 0 (IsState from fact v) →
      WasEmpty from fact t
  was_empty v t is held = subst (λ l. IsState from fact (taker_view t.tag t.senders t.taken t.met) l) (none_left held.0 held.1)
      (subst (λ (u : RowView I). IsState from fact u held.0) is held.2)

  -- an empty row: of each sender that was met, all was taken
  pub all_ended : (t : Taking I) → WasEmpty from fact t → AllEnded from t
  all_ended t (views, pass, h, at) k sent m =
      let v : RowView I = taker_view t.tag t.senders t.taken t.met in
      ap (of_sender from k) (sym (append-nil t.taken)) ∙ met_flows from fact [] views v k sent
      (record { kept = h; pass = pass; at = at; takes = refl }) m

  -- what was taken of a sender that was met begins all that it sent
  pub begins_as : (v : RowView I) (t made : ℕ) (taken : List I) (met : List (ℕ × List I)) (k : ℕ) (sent : List I)
      → v ≡ taker_view t made taken met → ((items : List I) × IsState from fact v items) → Met met k sent →
      BeginsWith (of_sender from k taken) sent
  begins_as v t made taken met k sent is seen m =
      let u : RowView I = taker_view t made taken met in
      let (views, pass, h, at) = subst (λ (x : RowView I). IsState from fact x seen.0) is seen.1 in (
        of_sender from k seen.0,
        sym (of-append from k taken seen.0) ∙ met_flows from fact seen.0 views u k sent
            (record { kept = h; pass = pass; at = at; takes = refl }) m,
      )
