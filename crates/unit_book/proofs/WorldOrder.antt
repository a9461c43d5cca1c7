-- In a world the requests of a task are first started in the order of sending.
use Rattle.unit_book.proofs.Names.{◌≡◌, ◌≤◌, ℕ, suc, ◌+◌, ◌==◌, Bool, false, Some, List, [], ◌∷◌, length, map, refl, sym, ap, ◌∙◌}
use Rattle.unit_book.proofs.Names.{arith, inl, inr, subst, cases_Bool, filter, slice_get, slice_get-append_right}
use Rattle.unit_book.proofs.Names.{Meaning, Name, Piece, Entry, arrivals, arrived_of, has_arrived, has_started}
use Rattle.unit_book.specs.Laws.{first_starts}
use Rattle.unit_book.specs.World.{World, requests_of}
use Rattle.unit_book.proofs.Facts.{Facts, fresh-start}
use Rattle.unit_book.proofs.LegalFacts.{facts}
use Rattle.unit_book.proofs.Dooms.{filters-commute}
use Rattle.unit_book.proofs.OrderLaws.{starts-in-order}
use Rattle.unit_book.proofs.WorldSteps.{Kept}
use Rattle.std.proofs.lemmas.Grind.{common_steps}

none-at : {X : Type 0} (p : X → Bool) (xs : List X) → ((at : ℕ) (x : X) → slice_get xs at ≡ Some x → p x ≡ false) → filter p xs ≡ []
none-at p [] h = refl
none-at p (x ∷ xs) h = let e = h 0 x refl in rw e (none-at p xs (λ at y k. h (suc at) y k))

filter-map : (p : Name → Bool) (rs : List Piece) → filter p (map (λ r. r.name) rs) ≡ map (λ r. r.name) (filter (λ r. p r.name) rs)
filter-map p [] = refl
filter-map p (r ∷ rs) = grind (arith, common_steps, filter-map p rs)

module _ {D : Type 0} (meaning : Meaning D) (w : World D) (k : Kept meaning w) where
  abbrev H : List Entry
  H = w.book.trace

  known : Facts H
  known = facts meaning w.book.mounted H k.legal

  -- what is in flight was not started
  flight-unstarted : (task : ℕ) → filter (λ r. has_started r.name H) (requests_of task w.flight) ≡ []
  flight-unstarted task = none-at (λ r. has_started r.name H) F unstarted where
    A : List Piece
    A = requests_of task (arrivals H)

    F : List Piece
    F = requests_of task w.flight

    unstarted : (at : ℕ) (r : Piece) → slice_get F at ≡ Some r → has_started r.name H ≡ false
    unstarted at r h =
        let p : slice_get (w.sent task) (length A + at) ≡ Some r
        = ap (λ x. slice_get x (length A + at)) (sym (k.received task)) ∙ slice_get-append_right A F (length A + at) at refl ∙ h in
        let n : r.name ≡ record { task = task; seq = length A + at + 1 } = k.numbered task (length A + at) r p in
        elim (cases_Bool (has_arrived r.name H)) [
          | inl a ↦
              let few : length A + at + 1 ≤ arrived_of task H = subst (λ (x : Name). x.seq ≤ arrived_of x.task H) n (known.2 r.name a) in
              absurd (omega (arith, few))
          | inr a ↦ fresh-start r.name H known a
        ]

  started-sent : (task : ℕ) → filter (λ r. has_started r.name H) (requests_of task (arrivals H)) ≡ filter (λ r. has_started r.name H)
      (w.sent task)
  started-sent task = grind (arith, common_steps, flight-unstarted)

  pub first-started : (task : ℕ) →
      filter (λ n. n.task == task) (first_starts H) ≡ map (λ r. r.name) (filter (λ r. has_started r.name H) (w.sent task))
  first-started task = grind (arith, common_steps, starts-in-order, filter-map, filters-commute, started-sent)
