-- The split that seats a sender keeps the rule.
use Rattle.std.proofs.Common.{◌≡◌, ◌≢◌, ℕ, ◌+◌, ◌<◌, List, [], ◌∷◌, ◌++◌, length, set, refl, ap, sym, ◌∙◌, subst, arith, eq-eqb, ne_eqb}
use Rattle.std.proofs.Common.{Some, None, Option, cond, eqb}
use mathlib.Core.Option.{some, some-injective, some-ne-none}
use mathlib.Core.Logic.{dite}
use native.Mathlib.Decide.{dec_le}
use lib.ListN.{get_elem?}
use Rattle.crossbeam_queue.specs.Fifo.{Forks}
use Rattle.fifo_row.specs.declared.view.RowView.{RowView}
use Rattle.fifo_row.specs.Lists.{of_sender}
use Rattle.fifo_row.specs.Views.{sender_view, taker_view}
use Rattle.fifo_row.specs.Rule.{FitsTaker, PassFits, Fair, Kept}
use Rattle.fifo_row.proofs.Places.{all_set_snoc}
use Rattle.fifo_row.proofs.Fitting.{not_none, as_sender, as_taker}

-- the seats, of which one is another
pub seat_with : (ℕ → Option ℕ) → ℕ → Option ℕ → ℕ → Option ℕ
seat_with seat number new k = cond (eqb k number) new (seat k)

pub seat-same : (seat : ℕ → Option ℕ) (number : ℕ) (new : Option ℕ) → seat_with seat number new number ≡ new
unfolding seat_with
seat-same seat number new = ap (λ b. cond b new (seat number)) (eq-eqb number number refl)

pub seat-other : (seat : ℕ → Option ℕ) (number : ℕ) (new : Option ℕ) (k : ℕ) → k ≢ number → seat_with seat number new k ≡ seat k
unfolding seat_with
seat-other seat number new k ne = ap (λ b. cond b new (seat k)) (ne_eqb k number ne)

module _ {I : Type 0} (from : I → ℕ) (fact : I → ℕ → ℕ → ℕ → Type 0) where
  -- before the first sender is seated the row may have any tag
  retagged : (tag new reader : ℕ) (seat : ℕ → Option ℕ) (all taken : List I) (views : List (RowView I)) (pass t : ℕ) (got : List I)
      (met : List (ℕ × List I))
      → Fair from fact tag reader seat all taken views → get_elem? views pass ≡ some (taker_view t 0 got met) →
      Fair from fact new reader seat all taken views
  retagged tag new reader seat all taken views pass t got met f at =
      let mine = (f.fits pass (taker_view t 0 got met) at).as_taker refl in
      let none : (k : ℕ) → of_sender from k all ≡ [] = λ k. (mine.later k (omega arith)).1 in
      record {
        lawful = λ k i x e. absurd (some-ne-none x (sym e ∙ ap (λ l. get_elem? l i) (none k)));
        few = f.few;
        fits = λ j u e.
            let old = f.fits j u e in
            record {
              as_sender = λ p. not_none j (sym (old.as_sender p).here ∙ (mine.later u.number (omega arith)).0);
              as_taker = λ p.
                  let r = old.as_taker p in
                  let same : u ≡ taker_view t 0 got met = some-injective u (taker_view t 0 got met)
                  (sym e ∙ (ap (get_elem? views) (r.here ∙ sym mine.here) ∙ at)) in
                  let none_made : u.made ≡ 0 = ap (λ (w : RowView I). w.made) same in
                  record {
                    here = r.here;
                    tag_is = λ some_made. absurd (omega (arith, some_made, none_made));
                    taken_is =
                        r.taken_is;
                    later = r.later;
                    ended = r.ended;
                  };
            };
      }

  module _ (tag reader : ℕ) (seat : ℕ → Option ℕ) (all taken : List I) (views : List (RowView I)) (pass t made : ℕ) (got : List I)
      (met : List (ℕ × List I)) (mine : FitsTaker from tag reader seat all taken pass (taker_view t made got met)) where
    abbrev seats : ℕ → Option ℕ
    seats = seat_with seat made (Some (length views))

    free : (seat made ≡ None) × (of_sender from made all ≡ [])
    free = mine.later made (omega arith)

    -- the taker, with one sender more
    made_one : FitsTaker from tag reader seats all taken pass (taker_view tag (made + 1) got met)
    made_one = record {
      here = mine.here;
      tag_is = λ _. refl;
      taken_is = mine.taken_is;
      later = λ k h.
          let ne : k ≢ made = λ s. omega (arith, s, h) in
          let l = mine.later k (omega (arith, h)) in
          (seat-other seat made (Some (length views)) k ne ∙ l.0, l.1);
      ended = λ k xs m.
          let l = mine.ended k xs m in
          let ne : k ≢ made = λ s. omega (arith, s, l.0) in
          (omega (arith, l.0), seat-other seat made (Some (length views)) k ne ∙ l.1, l.2);
    }

    -- another pass is no taker, and a sender's that was seated before
    others : (j : ℕ) (u : RowView I) → j ≢ pass → PassFits from tag reader seat all taken j u → PassFits from tag reader seats all taken j u
    others j u ne old = record {
      as_sender = λ p.
          let s = old.as_sender p in
          let before : u.number ≢ made = λ same. not_none j (sym s.here ∙ (ap seat same ∙ free.0)) in
          record { here = seat-other seat made (Some (length views)) u.number before ∙ s.here; tag_is = s.tag_is; sent_is = s.sent_is };
      as_taker = λ p. absurd (ne ((old.as_taker p).here ∙ sym mine.here));
    }

    seats_fair : Fair from fact tag reader seat all taken views →
        Fair from fact tag reader seats all taken (set views pass (taker_view tag (made + 1) got met) ++ sender_view tag made [] ∷ [])
    seats_fair f = record {
      lawful = f.lawful;
      few = f.few;
      fits = all_set_snoc (PassFits from tag reader seats all taken) views pass (taker_view tag (made + 1) got met)
          (sender_view tag made [])
          (as_taker from tag reader seats all taken pass tag (made + 1) got met made_one)
          (λ j u ne e. others j u ne (f.fits j u e))
          (as_sender from tag reader seats all taken (length views) tag made []
          (record { here = seat-same seat made (Some (length views)); tag_is = refl; sent_is = free.1 }));
    }

  -- the rule of a row, at the tag that its first sender is seated with
  tagged : (reader : ℕ) (seat : ℕ → Option ℕ) (old new : ℕ) (all taken : List I) (views : List (RowView I)) (pass t made : ℕ) (got : List I)
      (met : List (ℕ × List I))
      → (0 < made → t ≡ new) → Fair from fact old reader seat all taken views → get_elem? views pass ≡ some (taker_view t made got met) →
      Fair from fact new reader seat all taken views
  tagged reader seat old new all taken views pass t made got met is f at =
      dite (dec_le made 0)
      (λ le.
      let none : made ≡ 0 = omega (arith, le) in
      retagged old new reader seat all taken views pass t got met f (at ∙ ap (λ m. some (taker_view t m got met)) none))
      (λ gt.
      let some_made : 0 < made = omega (arith, gt) in
      let same : old ≡ new = sym (((f.fits pass (taker_view t made got met) at).as_taker refl).tag_is some_made) ∙ is some_made in
      subst (λ n. Fair from fact n reader seat all taken views) same f)

  seats_one : (pass new t made : ℕ) (got : List I) (met : List (ℕ × List I)) → (0 < made → t ≡ new)
      → Forks (Kept from fact) pass (taker_view t made got met) (taker_view new (made + 1) got met) (sender_view new made [])
  seats_one pass new t made got met is items views h at =
      let fair = tagged h.reader h.seat h.tag new (h.taken ++ items) h.taken views pass t made got met is h.fair at in
      let mine = (fair.fits pass (taker_view t made got met) at).as_taker refl in
      record {
        tag = new;
        reader = h.reader;
        seat = seat_with h.seat made (Some (length views));
        taken = h.taken;
        fair = seats_fair new h.reader h.seat (h.taken ++ items) h.taken views pass t made got met mine fair;
      }

  -- the step, at a view that is the taker's
  pub seats_as : (pass new : ℕ) (v : RowView I) → v ≡ taker_view v.tag v.made [] [] → (0 < v.made → v.tag ≡ new)
      → Forks (Kept from fact) pass v (taker_view new (v.made + 1) v.taken v.met) (sender_view new v.made [])
  seats_as pass new v is tagged' =
      subst (λ (u : RowView I). Forks (Kept from fact) pass u (taker_view new (u.made + 1) u.taken u.met) (sender_view new u.made []))
      (sym is) (seats_one pass new v.tag v.made [] [] tagged')
