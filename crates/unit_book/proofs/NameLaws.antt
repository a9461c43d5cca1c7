-- A name that arrived has one place; at most one request is active.
use Rattle.unit_book.proofs.Names.{◌≡◌, ◌≤◌, true, false, not, ◌&&◌, ◌||◌, Option, Some, None, List, [], ◌∷◌, length, refl}
use Rattle.unit_book.proofs.Names.{sym, ap, ◌∙◌, arith, inl, inr, subst, cases_Bool, filter, list_any, Meaning, Name, Entry, Arrive}
use Rattle.unit_book.proofs.Names.{Start, same, starts, arrivals, has_arrived, has_started, is_posted, waiting, active, starts_of}
use Rattle.unit_book.proofs.Names.{Legal, StartFits, First, Again}
use Rattle.unit_book.specs.Laws.{OnePlace, FewStarts, waits, is_one, is_active}
use Rattle.unit_book.proofs.Lists.{same-true, same-refl, no_both}
use Rattle.unit_book.proofs.Facts.{Facts, active-is, fits-freely}
use Rattle.unit_book.proofs.LegalFacts.{facts, first-named}
use Rattle.unit_book.proofs.Restarts.{retry-few}
use Rattle.unit_book.proofs.Starts.{no-starts}
use Rattle.std.proofs.Math.Bool.{and_comm}
use Rattle.std.proofs.lemmas.Map.Views.{any-filter_same}
use Rattle.std.proofs.lemmas.Grind.{common_steps}

-- who has arrived is among the arrivals
pub arrived-any : (n : Name) (H : List Entry) → has_arrived n H ≡ list_any (λ r. same r.name n) (arrivals H)
unfolding arrivals
arrived-any n [] = refl
arrived-any n (Arrive r ∷ H) = grind (arith, common_steps, arrived-any n H)
arrived-any n (_ ∷ H) = arrived-any n H

-- a name waits if it arrived and was neither started nor posted
waits-is : (n : Name) (H : List Entry) → waits n H ≡ (has_arrived n H && not (has_started n H || is_posted n H))
unfolding waiting
waits-is n H =
    any-filter_same (λ r. same r.name n) (λ r. not (has_started r.name H || is_posted r.name H)) (not (has_started n H || is_posted n H))
    (λ r s. ap (λ (x : Name). not (has_started x H || is_posted x H)) (same-true r.name n s)) (arrivals H)
    ∙ and_comm (not (has_started n H || is_posted n H)) (list_any (λ r. same r.name n) (arrivals H))
    ∙ ap (λ b. b && not (has_started n H || is_posted n H)) (sym (arrived-any n H))

-- a name is active if it was started and not posted
active-one : (n : Name) (H : List Entry) → Facts H → is_active n H ≡ (has_started n H && not (is_posted n H))
active-one n H f = by_active (active H) refl where
  by_active : (o : Option Name) → active H ≡ o → is_one n o ≡ (has_started n H && not (is_posted n H))
  by_active None e = elim (cases_Bool (has_started n H)) [
    | inl s ↦ elim (cases_Bool (is_posted n H)) [ inl p ↦ rw (s, p) refl | inr p ↦ let k = sym e ∙ f.3 n s p in absurd cc ]
    | inr s ↦ rw s refl
  ]
  by_active (Some m) e =
      elim (cases_Bool (same m n)) [
        | inl s ↦ let a = subst (λ (x : Name). (has_started x H ≡ true) × (is_posted x H ≡ false)) (same-true m n s)
            (active-is m H e) in let p = a.0 in let q = a.1 in rw (s, p, q) refl
        | inr s ↦ elim (cases_Bool (has_started n H)) [
          | inl t ↦ elim (cases_Bool (is_posted n H)) [
            | inl p ↦ rw (s, t, p) refl
            | inr p ↦ let k : Some m ≡ Some n = sym e ∙ f.3 n t p in let i : m ≡ n = cc in no_both (same m n) (rw i (same-refl n)) s
          ]
          | inr t ↦ rw (s, t) refl
        ]
      ]

module _ {D : Type 0} (meaning : Meaning D) where
  pub one-place : OnePlace meaning
  one-place mounted n H l a = grind (arith, common_steps, facts, waits-is, active-one)

  module _ (mounted : D) where
    start-few : (n : Name) (H : List Entry) → Facts H → StartFits meaning mounted n H → length (filter (starts n) H) ≤ 10
    start-few n H f (First s) = omega (arith, no-starts n H (first-named H f s.first s.name).unstarted)
    start-few n H f (Again s) = retry-few (meaning.kind mounted) s.status.csw s.status.sense (starts_of n H) s.retry

    few : (n : Name) (H : List Entry) → Legal meaning mounted H → starts_of n H ≤ 11
    unfolding Legal
    few n [] l = omega arith
    few n (Start m ∷ H) l =
        let ih = few n H l.1 in
        elim (cases_Bool (same m n)) [
          | inl s ↦
              let k = subst (λ (x : Name). length (filter (starts x) H) ≤ 10) (same-true m n s)
              (start-few m H (facts meaning mounted H l.1) (fits-freely meaning mounted (Start m) H refl l.0).1) in
              rw s (omega (arith, k))
          | inr s ↦ rw s ih
        ]
    few n (_ ∷ H) l = few n H l.1

  pub few-starts : FewStarts meaning
  few-starts = record {
    one_active = λ mounted n m H l a b c d.
        let f = facts meaning mounted H l in
        let k : Some n ≡ Some m = sym (f.3 n a b) ∙ f.3 m c d in cc;
    eleven_starts = few;
  }
