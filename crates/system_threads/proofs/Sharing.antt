-- Units and subclasses that are dealt out to workers.
use Rattle.std.proofs.Common.{◌≡◌, ◌≢◌, ◌==◌, ℕ, ◌+◌, ◌%◌, List, [], ◌∷◌, ◌++◌, length, set, Some, refl, sym, ap, ◌∙◌, ⊎_elim, add-one}
use Rattle.std.proofs.Common.{eq-eqb, ne_eqb, length-append}
use Rattle.std.specs.Prelude.{slice_get}
use Rattle.std.proofs.lemmas.List.{append-nil}
use Rattle.std.proofs.lemmas.Option.{slice_get_within}
use Rattle.std.proofs.Math.ListN.{length-set}
use mathlib.Core.Logic.{dite}
use native.Mathlib.Decide.{ℕ_discrete}
use Rattle.std.proofs.lemmas.List.Elements.{filter-append}
use Rattle.excp_system.proofs.Places.{get_set_same, get_set_other, get_snoc, some_is}
use Rattle.system_threads.specs.Shares.{AreSharedSoFar, AreShared, below, share_of}

-- one more worker
pub shared_snoc : {A W : Type 0} (held : W → List A) (number : A → ℕ) (count made : ℕ) (all : List A) (workers : List W) (w : W) →
    AreSharedSoFar held number count made all workers → held w ≡ share_of number count made all →
    AreSharedSoFar held number count (made + 1) all (workers ++ w ∷ [])
shared_snoc held number count made all workers w old new = record {
  count_is = length-append workers (w ∷ []) ∙ ap (λ n. n + 1) old.count_is;
  each = λ k v at. ⊎_elim
      (λ before. old.each k v before)
      (λ (t : (k ≡ length workers) × (w ≡ v)). ap held (sym t.1) ∙ new ∙ ap (λ n. share_of number count n all) (sym (t.0 ∙ old.count_is)))
      (get_snoc workers w v k at);
}

module _ {A : Type 0} (number : A → ℕ) (count : ℕ) where
  one_is : (remainder : ℕ) (x : A) → number x % count ≡ remainder → share_of number count remainder (x ∷ []) ≡ x ∷ []
  one_is remainder x is = rw (eq-eqb (number x % count) remainder is)

  one_is_not : (remainder : ℕ) (x : A) → number x % count ≢ remainder → share_of number count remainder (x ∷ []) ≡ []
  one_is_not remainder x is_not = rw (ne_eqb (number x % count) remainder is_not)

  -- one more, which is in the share, and one which is not
  pub share_more : (remainder : ℕ) (all : List A) (x : A) → number x % count ≡ remainder →
      share_of number count remainder (all ++ x ∷ []) ≡ share_of number count remainder all ++ x ∷ []
  share_more remainder all x is =
      filter-append (λ y. (number y % count) == remainder) all (x ∷ [])
      ∙ ap (λ l. share_of number count remainder all ++ l) (one_is remainder x is)

  pub share_same : (remainder : ℕ) (all : List A) (x : A) → number x % count ≢ remainder →
      share_of number count remainder (all ++ x ∷ []) ≡ share_of number count remainder all
  share_same remainder all x is_not =
      filter-append (λ y. (number y % count) == remainder) all (x ∷ [])
      ∙ ap (λ l. share_of number count remainder all ++ l) (one_is_not remainder x is_not) ∙ append-nil _

  -- it goes to the worker that has its remainder
  pub dealt : {W : Type 0} (held : W → List A) (all : List A) (workers : List W) (x : A) (old new : W) →
      AreShared held number count all workers → slice_get workers (number x % count) ≡ Some old → held new ≡ held old ++ x ∷ [] →
      AreShared held number count (all ++ x ∷ []) (set workers (number x % count) new)
  dealt {W} held all workers x old new shared there grown =
      let place = number x % count in
      record {
        count_is = length-set workers place new ∙ shared.count_is;
        each = λ k w at. dite (ℕ_discrete k place)
            (λ same. ap held (sym
            (some_is new w (sym (get_set_same workers place new (slice_get_within workers place old there))
            ∙ ap (slice_get (set workers place new)) (sym same) ∙ at)))
            ∙ grown ∙ ap (λ l. l ++ x ∷ []) (shared.each place old there) ∙ sym (share_more place all x refl)
            ∙ ap (λ n. share_of number count n (all ++ x ∷ [])) (sym same))
            (λ ne. shared.each k w (sym (get_set_other workers place k new ne) ∙ at) ∙ sym (share_same k all x (λ e. ne (sym e))));
      }

below_more : (n : ℕ) → below (n + 1) ≡ below n ++ n ∷ []
unfolding below
below_more n = ap below (add-one n)

-- the next of the numbers, which is in the share, and one which is not
pub share_next : (count remainder n : ℕ) → n % count ≡ remainder →
    share_of (λ k. k) count remainder (below (n + 1)) ≡ share_of (λ k. k) count remainder (below n) ++ n ∷ []
share_next count remainder n is = ap (share_of (λ k. k) count remainder) (below_more n) ∙ share_more (λ k. k) count remainder (below n) n is

pub share_stays : (count remainder n : ℕ) → n % count ≢ remainder →
    share_of (λ k. k) count remainder (below (n + 1)) ≡ share_of (λ k. k) count remainder (below n)
share_stays count remainder n is_not = ap (share_of (λ k. k) count remainder) (below_more n)
    ∙ share_same (λ k. k) count remainder (below n) n is_not
