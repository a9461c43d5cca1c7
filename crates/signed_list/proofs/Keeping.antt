-- The steps keep the rule of a register.
use Rattle.std.proofs.Common.{◌≡◌, ◌≢◌, ℕ, zero, suc, ◌+◌, ◌<◌, List, [], ◌∷◌, ◌++◌, length, set, refl, ap, sym, ◌∙◌, subst, ⊎_elim, arith, None, Some, Option}
use mathlib.Core.Option.{some, some-injective, some-ne-none}
use mathlib.Core.Logic.{dite}
use native.Mathlib.Decide.{dec_le}
use lib.ListN.{get_elem?}
use Rattle.crossbeam_queue.specs.Fifo.{Forks, Merges, Learns}
use Rattle.crossbeam_queue.proofs.Lists.{at_set}
use Rattle.signed_list.specs.declared.view.ListView.{ListView}
use Rattle.signed_list.specs.Signed.{signed_by}
use Rattle.signed_list.specs.Views.{list_view, pen_view, both_view, spent_view, opening_view}
use Rattle.signed_list.specs.Rule.{FitsPen, FitsList, PassFits, Fair, Kept, Agrees, OfPens}
use Rattle.signed_list.proofs.Places.{all_set, all_set_snoc}
use Rattle.signed_list.proofs.Seats.{off, some_is, not_none, seat_with, seat-same, seat-other}

module _ {I : Type 0} where
  as_pen : (keeper : ℕ) (seat : ℕ → Option ℕ) (all : List (ℕ × I)) (pass number : ℕ) (mine : List I) →
      FitsPen seat all pass (pen_view number mine) → PassFits keeper seat all pass (pen_view number mine)
  as_pen keeper seat all pass number mine fits = record { as_pen = λ _. fits; as_list = λ p. off p }

  as_list : (keeper : ℕ) (seat : ℕ → Option ℕ) (all : List (ℕ × I)) (pass made : ℕ) (mine : List (ℕ × I)) →
      FitsList keeper seat all pass (list_view made mine) → PassFits keeper seat all pass (list_view made mine)
  as_list keeper seat all pass made mine fits = record { as_pen = λ p. off p; as_list = λ _. fits }

  spent_fits : (keeper : ℕ) (seat : ℕ → Option ℕ) (all : List (ℕ × I)) (pass : ℕ) → PassFits keeper seat all pass spent_view
  spent_fits keeper seat all pass = record { as_pen = λ p. off p; as_list = λ p. off p }

  apart : (seat : ℕ → Option ℕ) (all : List (ℕ × I)) (pass number j : ℕ) (u : ListView I) → seat number ≡ Some pass →
      FitsPen seat all j u → j ≢ pass → u.number ≢ number
  apart seat all pass number j u here fits ne same = ne (some_is j pass (sym fits.here ∙ (ap seat same ∙ here)))

  one_view : (v u : ListView I) (j : ℕ) → get_elem? (v ∷ []) j ≡ some u → (j ≡ 0) × (v ≡ u)
  one_view v u zero e = (refl, some-injective v u e)
  one_view v u (suc j) e = absurd (some-ne-none u (sym e))

  -- nothing is signed at first
  pub opens : Kept [] (opening_view {I = I} ∷ [])
  unfolding signed_by
  opens = record {
    keeper = 0;
    seat = λ k. None;
    all = [];
    fair = λ j u e.
        let at = one_view opening_view u j e in
        subst (λ (y : ℕ × ListView I). PassFits 0 (λ k. None) [] y.0 y.1) (λ i. (sym at.0 i, at.1 i))
        (as_list 0 (λ k. None) [] 0 0 [] (record { here = refl; all_is = refl; later = λ k _. (refl, refl) }));
  }

  -- the list makes a pen
  module _ (keeper : ℕ) (seat : ℕ → Option ℕ) (all : List (ℕ × I)) (views : List (ListView I)) (pass made : ℕ) (mine : List (ℕ × I))
      (fits : FitsList keeper seat all pass (list_view made mine)) where
    abbrev made_seats : ℕ → Option ℕ
    made_seats = seat_with seat made (Some (length views))

    made_list : FitsList keeper made_seats all pass (list_view (made + 1) mine)
    made_list = record {
      here = fits.here;
      all_is = fits.all_is;
      later = λ k h.
          let l = fits.later k (omega (arith, h)) in
          (seat-other seat made (Some (length views)) k (λ s. omega (arith, s, h)) ∙ l.0, l.1);
    }

    made_others : (j : ℕ) (u : ListView I) → j ≢ pass → PassFits keeper seat all j u → PassFits keeper made_seats all j u
    made_others j u ne old = record {
      as_pen = λ p.
          let s = old.as_pen p in
          let before : u.number ≢ made = λ same. not_none j (sym s.here ∙ (ap seat same ∙ (fits.later made (omega arith)).0)) in
          record { here = seat-other seat made (Some (length views)) u.number before ∙ s.here; mine_is = s.mine_is };
      as_list = λ p. absurd (ne ((old.as_list p).here ∙ sym fits.here));
    }

    made_fair : Fair keeper seat all views → Fair keeper made_seats all (set views pass (list_view (made + 1) mine) ++ pen_view made [] ∷ [])
    made_fair f = all_set_snoc (PassFits keeper made_seats all) views pass (list_view (made + 1) mine) (pen_view made [])
        (as_list keeper made_seats all pass (made + 1) mine made_list)
        (λ j u ne e. made_others j u ne (f j u e))
        (as_pen keeper made_seats all (length views) made []
        (record { here = seat-same seat made (Some (length views)); mine_is = (fits.later made (omega arith)).1 }))

  makes : (pass made : ℕ) (mine : List (ℕ × I)) → Forks Kept pass (list_view made mine) (list_view (made + 1) mine) (pen_view made [])
  makes pass made mine items views h at =
      let fits = (h.fair pass (list_view made mine) at).as_list refl in
      record {
        keeper = h.keeper;
        seat = seat_with h.seat made (Some (length views));
        all = h.all;
        fair = made_fair h.keeper h.seat h.all views pass made mine fits h.fair;
      }

  pub makes_as : (pass : ℕ) (v : ListView I) → v ≡ list_view v.made [] →
      Forks Kept pass v (list_view (v.made + 1) v.all) (pen_view v.made [])
  makes_as pass v is =
      subst (λ (u : ListView I). Forks Kept pass u (list_view (u.made + 1) u.all) (pen_view u.made [])) (sym is) (makes pass v.made [])

  -- the list takes up a pen
  module _ (keeper : ℕ) (seat : ℕ → Option ℕ) (all : List (ℕ × I)) (pass made : ℕ) (mine : List (ℕ × I)) (other number : ℕ) (signed : List I)
      (fits : FitsList keeper seat all pass (list_view made mine)) (theirs : FitsPen seat all other (pen_view number signed)) where
    abbrev up_seats : ℕ → Option ℕ
    up_seats = seat_with seat number (Some pass)

    below : number < made
    below = dite (dec_le made number) (λ le. not_none other (sym theirs.here ∙ (fits.later number le).0)) (λ gt. omega (arith, gt))

    up_both : PassFits keeper up_seats all pass (both_view made mine number signed)
    up_both = record {
      as_pen = λ _. record { here = seat-same seat number (Some pass); mine_is = theirs.mine_is };
      as_list = λ _. record {
        here = fits.here;
        all_is = fits.all_is;
        later = λ k h.
            let l = fits.later k h in
            (seat-other seat number (Some pass) k (λ s. omega (arith, s, h, below)) ∙ l.0, l.1);
      };
    }

    up_others : (j : ℕ) (u : ListView I) → j ≢ pass → PassFits keeper seat all j u → j ≢ other → PassFits keeper up_seats all j u
    up_others j u ne old away = record {
      as_pen = λ p.
          let s = old.as_pen p in
          record {
            here = seat-other seat number (Some pass) u.number (apart seat all other number j u theirs.here s away) ∙ s.here;
            mine_is = s.mine_is;
          };
      as_list = λ p. absurd (ne ((old.as_list p).here ∙ sym fits.here));
    }

    up_fair : (views : List (ListView I)) → Fair keeper seat all views →
        Fair keeper up_seats all (set (set views pass (both_view made mine number signed)) other spent_view)
    up_fair views f =
        let both : ListView I = both_view made mine number signed in
        let unless_spent : ℕ → ListView I → Type 0 = λ j u. j ≢ other → PassFits keeper up_seats all j u in
        let first : (j : ℕ) (u : ListView I) → get_elem? (set views pass both) j ≡ some u → unless_spent j u =
        all_set unless_spent views pass both (λ _. up_both) (λ j u ne e away. up_others j u ne (f j u e) away) in
        all_set (PassFits keeper up_seats all) (set views pass both) other spent_view (spent_fits keeper up_seats all other)
        (λ j u ne e. first j u e ne)

  takes_up : (pass made : ℕ) (mine : List (ℕ × I)) (other number : ℕ) (signed : List I) →
      Merges Kept pass (list_view made mine) other (pen_view number signed) (both_view made mine number signed) spent_view
  takes_up pass made mine other number signed items views h at apart' at' =
      let both : ListView I = both_view made mine number signed in
      let was : get_elem? views other ≡ some (pen_view number signed) =
      ⊎_elim (λ x. absurd (apart' x.0)) (λ x. x.1) (at_set views pass other both (pen_view number signed) at') in
      let fits = (h.fair pass (list_view made mine) at).as_list refl in
      let theirs = (h.fair other (pen_view number signed) was).as_pen refl in
      record {
        keeper = h.keeper;
        seat = seat_with h.seat number (Some pass);
        all = h.all;
        fair = up_fair h.keeper h.seat h.all pass made mine other number signed fits theirs views h.fair;
      }

  pub takes_up_as : (pass : ℕ) (v : ListView I) (other : ℕ) (u : ListView I) → v ≡ list_view v.made v.all → u ≡ pen_view u.number u.mine →
      Merges Kept pass v other u (both_view v.made v.all u.number u.mine) spent_view
  takes_up_as pass v other u is is' =
      subst (λ (p : ListView I × ListView I). Merges Kept pass p.0 other p.1 (both_view p.0.made p.0.all p.1.number p.1.mine) spent_view)
      (λ i. (sym is i, sym is' i)) (takes_up pass v.made v.all other u.number u.mine)

  -- what the list learns of the pen in its hand
  agrees : (pass made : ℕ) (mine : List (ℕ × I)) (number : ℕ) (signed : List I) →
      Learns Kept pass (both_view made mine number signed) (Agrees (both_view made mine number signed))
  agrees pass made mine number signed items views h at =
      let f = h.fair pass (both_view made mine number signed) at in
      ap (signed_by number) ((f.as_list refl).all_is) ∙ (f.as_pen refl).mine_is

  pub agrees_as : (pass : ℕ) (v : ListView I) → v ≡ both_view v.made v.all v.number v.mine → Learns Kept pass v (Agrees v)
  agrees_as pass v is = subst (λ (u : ListView I). Learns Kept pass u (Agrees u)) (sym is) (agrees pass v.made v.all v.number v.mine)

  -- the list puts the pen down, which may have signed
  module _ (keeper : ℕ) (seat : ℕ → Option ℕ) (all : List (ℕ × I)) (views : List (ListView I)) (pass made : ℕ)
      (mine : List (ℕ × I)) (number : ℕ) (signed : List I)
      (fits : PassFits keeper seat all pass (both_view made mine number signed)) (after : List (ℕ × I)) (now : List I)
      (own : signed_by number after ≡ now) (rest : (k : ℕ) → k ≢ number → signed_by k after ≡ signed_by k mine) where
    abbrev down_seats : ℕ → Option ℕ
    down_seats = seat_with seat number (Some (length views))

    list : FitsList keeper seat all pass (both_view made mine number signed)
    list = fits.as_list refl

    pen : FitsPen seat all pass (both_view made mine number signed)
    pen = fits.as_pen refl

    lower : number < made
    lower = dite (dec_le made number) (λ le. not_none pass (sym pen.here ∙ (list.later number le).0)) (λ gt. omega (arith, gt))

    same : (k : ℕ) → k ≢ number → signed_by k after ≡ signed_by k all
    same k ne = rest k ne ∙ ap (signed_by k) list.all_is

    down_list : FitsList keeper down_seats after pass (list_view made after)
    down_list = record {
      here = list.here;
      all_is = refl;
      later = λ k h.
          let l = list.later k h in
          let ne : k ≢ number = λ s. omega (arith, s, h, lower) in
          (seat-other seat number (Some (length views)) k ne ∙ l.0, same k ne ∙ l.1);
    }

    down_others : (j : ℕ) (u : ListView I) → j ≢ pass → PassFits keeper seat all j u → PassFits keeper down_seats after j u
    down_others j u ne old = record {
      as_pen = λ p.
          let s = old.as_pen p in
          let other = apart seat all pass number j u pen.here s ne in
          record {
            here = seat-other seat number (Some (length views)) u.number other ∙ s.here;
            mine_is = same u.number other ∙ s.mine_is;
          };
      as_list = λ p. absurd (ne ((old.as_list p).here ∙ sym list.here));
    }

    down_fair : Fair keeper seat all views → Fair keeper down_seats after (set views pass (list_view made after) ++ pen_view number now ∷ [])
    down_fair f = all_set_snoc (PassFits keeper down_seats after) views pass (list_view made after) (pen_view number now)
        (as_list keeper down_seats after pass made after down_list)
        (λ j u ne e. down_others j u ne (f j u e))
        (as_pen keeper down_seats after (length views) number now
        (record { here = seat-same seat number (Some (length views)); mine_is = own }))

  puts_down : (pass made : ℕ) (mine : List (ℕ × I)) (number : ℕ) (signed : List I) (after : List (ℕ × I)) (now : List I) →
      (signed_by number mine ≡ signed → signed_by number after ≡ now) → ((k : ℕ) → k ≢ number → signed_by k after ≡ signed_by k mine)
      → Forks Kept pass (both_view made mine number signed) (list_view made after) (pen_view number now)
  puts_down pass made mine number signed after now own rest items views h at =
      let fits = h.fair pass (both_view made mine number signed) at in
      let was : signed_by number mine ≡ signed = ap (signed_by number) ((fits.as_list refl).all_is) ∙ (fits.as_pen refl).mine_is in
      record {
        keeper = h.keeper;
        seat = seat_with h.seat number (Some (length views));
        all = after;
        fair = down_fair h.keeper h.seat h.all views pass made mine number signed fits after now (own was) rest h.fair;
      }

  pub puts_down_as : (pass : ℕ) (v : ListView I) (after : List (ℕ × I)) (now : List I) → v ≡ both_view v.made v.all v.number v.mine →
      (signed_by v.number v.all ≡ v.mine → signed_by v.number after ≡ now) → ((k : ℕ) → k ≢ v.number → signed_by k after ≡ signed_by k v.all)
      → Forks Kept pass v (list_view v.made after) (pen_view v.number now)
  puts_down_as pass v after now is own rest =
      subst (λ (u : ListView I). Forks Kept pass u (list_view v.made after) (pen_view v.number now)) (sym is)
      (puts_down pass v.made v.all v.number v.mine after now own rest)

  -- a view that holds a pen, by its own words
  pub is_both : (v : ListView I) (made : ℕ) (all : List (ℕ × I)) (number : ℕ) (mine : List I) → v ≡ both_view made all number mine →
      v ≡ both_view v.made v.all v.number v.mine
  is_both v made all number mine e = e ∙ sym (ap (λ (w : ListView I). both_view w.made w.all w.number w.mine) e)

  of_pens : (pass made : ℕ) (mine : List (ℕ × I)) → Learns Kept pass (list_view made mine) (OfPens (list_view made mine))
  of_pens pass made mine items views h at k later =
      let f = (h.fair pass (list_view made mine) at).as_list refl in
      ap (signed_by k) f.all_is ∙ (f.later k later).1

  pub of_pens_as : (pass : ℕ) (v : ListView I) → v ≡ list_view v.made v.all → Learns Kept pass v (OfPens v)
  of_pens_as pass v is = subst (λ (u : ListView I). Learns Kept pass u (OfPens u)) (sym is) (of_pens pass v.made v.all)
