-- What the rule says of single passes, and of a row that opens.
use Rattle.std.proofs.Common.{◌≡◌, ◌≢◌, ℕ, zero, suc, true, false, true≢false, List, [], ◌∷◌, refl, ap, sym, ◌∙◌, subst, arith, Some, None}
use Rattle.std.proofs.Common.{Option}
use mathlib.Core.Option.{some, some-injective, some-ne-none}
use lib.ListN.{get_elem?}
use Rattle.fifo_row.specs.declared.view.RowView.{RowView}
use Rattle.fifo_row.specs.Views.{opening_view, sender_view, taker_view, spent_view}
use Rattle.fifo_row.specs.Rule.{FitsSender, FitsTaker, PassFits, Kept}
use Rattle.fifo_row.specs.Steps.{IsState}
use Rattle.crossbeam_queue.specs.Fifo.{Learns}
use Rattle.fifo_row.proofs.Places.{no_met}

pub off : {A : Type 0} → false ≡ true → A
off e = absurd (true≢false (sym e))

pub some_is : (a b : ℕ) → Some a ≡ Some b → a ≡ b
some_is a b e = cc e

pub not_none : {A : Type 0} → (a : ℕ) → Some a ≡ None → A
not_none a e = absurd (cc e)

module _ {I : Type 0} (from : I → ℕ) where
  -- a sender's pass fits where its seat does
  pub as_sender : (tag reader : ℕ) (seat : ℕ → Option ℕ) (all taken : List I) (pass t number : ℕ) (sent : List I)
      → FitsSender from tag seat all pass (sender_view t number sent) →
      PassFits from tag reader seat all taken pass (sender_view t number sent)
  as_sender tag reader seat all taken pass t number sent fits = record { as_sender = λ _. fits; as_taker = λ p. off p }

  -- the taker's pass fits where its seat does
  pub as_taker : (tag reader : ℕ) (seat : ℕ → Option ℕ) (all taken : List I) (pass t made : ℕ) (got : List I) (met : List (ℕ × List I))
      → FitsTaker from tag reader seat all taken pass (taker_view t made got met) →
      PassFits from tag reader seat all taken pass (taker_view t made got met)
  as_taker tag reader seat all taken pass t made got met fits = record { as_sender = λ p. off p; as_taker = λ _. fits }

  -- a spent pass fits
  pub spent_fits : (tag reader : ℕ) (seat : ℕ → Option ℕ) (all taken : List I) (pass : ℕ) →
      PassFits from tag reader seat all taken pass spent_view
  spent_fits tag reader seat all taken pass = record { as_sender = λ p. off p; as_taker = λ p. off p }

  -- another pass that sends has another number
  pub apart : (tag : ℕ) (seat : ℕ → Option ℕ) (all : List I) (pass number j : ℕ) (u : RowView I) → seat number ≡ Some pass →
      FitsSender from tag seat all j u → j ≢ pass → u.number ≢ number
  apart tag seat all pass number j u here fits ne same = ne (some_is j pass (sym fits.here ∙ (ap seat same ∙ here)))

module _ {I : Type 0} (from : I → ℕ) (fact : I → ℕ → ℕ → ℕ → Type 0) where
  one_view : (v u : RowView I) (j : ℕ) → get_elem? (v ∷ []) j ≡ some u → (j ≡ 0) × (v ≡ u)
  one_view v u zero e = (refl, some-injective v u e)
  one_view v u (suc j) e = absurd (some-ne-none u (sym e))

  -- the row opens with nothing sent
  pub opens : Kept from fact [] (opening_view ∷ [])
  opens = record {
    tag = 0;
    reader = 0;
    seat = λ k. None;
    taken = [];
    fair = record {
      lawful = λ k i x e. absurd (some-ne-none x (sym e));
      few = λ k. omega arith;
      fits = λ j u e.
          let at = one_view opening_view u j e in
          subst (λ (y : ℕ × RowView I). PassFits from 0 0 (λ k. None) [] [] y.0 y.1) (λ i. (sym at.0 i, at.1 i))
          (as_taker from 0 0 (λ k. None) [] [] 0 0 0 [] []
          (record { here = refl; tag_is = λ _. refl; taken_is = refl; later = λ k _. (refl, refl); ended = λ k xs m. no_met k xs m }));
    };
  }

  -- a pass learns that there is such a state
  pub is_state : (pass : ℕ) (v : RowView I) → Learns (Kept from fact) pass v (IsState from fact v)
  is_state pass v items views h at = (views, pass, h, at)
