-- What each step of a world keeps: what was sent arrived or is in flight, and what was posted is got, on its way back
-- or out.
use Rattle.unit_book.proofs.Names.{◌≡◌, ℕ, ◌+◌, true, Some, List, [], ◌∷◌, ◌++◌, append_assoc, length, refl, sym, ap, ◌∙◌, arith, eqb}
use Rattle.unit_book.proofs.Names.{subst, eqb-true, eq-eqb, append-nil, filter-append, slice_get, drop, slice_get-append_right, Meaning}
use Rattle.unit_book.proofs.Names.{PostedState, Name, Piece, arrivals, arrived_of, Legal, posted, Book, Each}
use Rattle.unit_book.specs.Legal.{Settled}
use Rattle.unit_book.specs.World.{World, requests_of, values_of, one_more_of_task, without_first, InBook, Takes, Step, Accept, Take, Open}
use Rattle.unit_book.specs.World.{Call, Deliver, Collect, Reaches, Stay, Go, IsOpening}
use Rattle.unit_book.proofs.Facts.{Each-behind}
use Rattle.unit_book.proofs.WorldTraces.{opened-only}
use Rattle.unit_book.proofs.WorldBooks.{Keeps, Sound, keeps-arrive, keeps-open, keeps-step}
use Rattle.unit_book.proofs.Lists.{at-push, first-rest, name-is}
use Rattle.std.proofs.lemmas.Grind.{common_steps}

module _ {D : Type 0} (meaning : Meaning D) where
  -- WHAT HOLDS BETWEEN STEPS
  pub record Kept (w : World D) : Type 0 where
    pub received : (task : ℕ) → requests_of task (arrivals w.book.trace) ++ requests_of task w.flight ≡ w.sent task
    pub numbered : (task at : ℕ) (r : Piece) → slice_get (w.sent task) at ≡ Some r → r.name ≡ record { task = task; seq = at + 1 }
    pub for_unit : (task : ℕ) → Each (λ r. r.unit ≡ w.unit) (w.sent task)
    pub returned : (task : ℕ) → values_of task (posted meaning w.book.mounted w.book.trace)
        ≡ (w.got task ++ w.back task) ++ values_of task w.book.out
    pub legal : Legal meaning w.book.mounted w.book.trace
    pub settled : Settled meaning w.book.mounted w.book.trace

  sound : (w : World D) → Kept w → Sound meaning w.book
  sound w k = record { legal = k.legal; settled = k.settled }

  -- A CALL OF THE BOOK, at which these requests arrive
  call-kept : (w : World D) {book : Book D} {more : List Piece} (rest : List Piece) → Kept w → Keeps meaning w.book more book →
      w.flight ≡ more ++ rest → Kept (record w { book = book; flight = rest })
  call-kept w {book} {more} rest k c before = grind (arith, common_steps)

  in-book : {old new : World D} → Kept old → InBook old new → Keeps meaning old.book [] new.book → Kept new
  in-book {old} {new} k e c = subst Kept (sym e) (call-kept old old.flight k c refl)

  -- A REQUEST IS ACCEPTED
  accept-kept : (w : World D) (r : Piece) → Kept w → r.unit ≡ w.unit → r.name.seq ≡ length (w.sent r.name.task) + 1 →
      Kept (record w { sent = one_more_of_task w.sent r.name.task r; flight = w.flight ++ r ∷ [] })
  accept-kept w r k of_unit next =
      grind (arith, common_steps, filter-append, append_assoc, append-nil, eqb-true, at-push, name-is, Each-behind)

  -- A REQUEST ARRIVES: it has the next number of its task
  next-number : (w : World D) (r : Piece) (rest : List Piece) → Kept w → w.flight ≡ r ∷ rest →
      r.name.seq ≡ arrived_of r.name.task w.book.trace + 1
  next-number w r rest k e =
      let task = r.name.task in
      let A = requests_of task (arrivals w.book.trace) in
      let t : eqb r.name.task task ≡ true = eq-eqb task task refl in
      let f : requests_of task w.flight ≡ r ∷ requests_of task rest = ap (requests_of task) e ∙ rw t refl in
      let p : slice_get (w.sent task) (length A) ≡ Some r
      = ap (λ x. slice_get x (length A)) (sym (k.received task) ∙ ap (λ x. A ++ x) f)
      ∙ slice_get-append_right A (r ∷ requests_of task rest) (length A) 0 (omega arith) in
      ap (λ (n : Name). n.seq) (k.numbered task (length A) r p)

  take-kept : (old new : World D) → Kept old → Takes meaning old new → Kept new
  take-kept old new k s =
      let e = first-rest old.flight s.request s.first in
      let c = keeps-arrive meaning (sound old k) (next-number old s.request (drop 1 old.flight) k e) s.arrives in
      subst Kept (sym s.is) (call-kept old (drop 1 old.flight) k c e)

  -- A VALUE GOES BACK
  deliver-kept : (w : World D) (value : PostedState) → Kept w → slice_get w.book.out 0 ≡ Some value →
      Kept (record w { book = record w.book { out = drop 1 w.book.out }; back = one_more_of_task w.back value.name.task value })
  deliver-kept w value k first = grind (arith, common_steps)

  -- A TASK COLLECTS A VALUE
  collect-kept : (w : World D) (task : ℕ) (value : PostedState) → Kept w → slice_get (w.back task) 0 ≡ Some value →
      Kept (record w { back = without_first w.back task; got = one_more_of_task w.got task value })
  collect-kept w task value k first = grind (arith, common_steps)

  -- EACH STEP KEEPS IT
  step-kept : (old new : World D) → Kept old → Step meaning old new → Kept new
  step-kept old new k (Accept r s) = subst Kept (sym s.is) (accept-kept old r k s.of_unit s.next)
  step-kept old new k (Take s) = take-kept old new k s
  step-kept old new k (Open dcb method extents s e) = in-book k e (keeps-open meaning (sound old k) s)
  step-kept old new k (Call step answer s e) = in-book k e (keeps-step meaning step answer (sound old k) s)
  step-kept old new k (Deliver s) = subst Kept (sym s.is) (deliver-kept old s.value k s.first)
  step-kept old new k (Collect task s) = subst Kept (sym s.is) (collect-kept old task s.value k s.first)

  opening-kept : (w : World D) → IsOpening meaning w → Kept w
  opening-kept w o =
      let t = opened-only meaning w.book.mounted w.book.trace o.opened in
      let a = t.0 in
      let p = t.1 in
      let f = o.flight in
      let u = o.out in
      record {
        received = λ task. let s = o.sent task in rw (a, f, s) refl;
        numbered = λ task at r h. absurd (none at r (ap (λ x. slice_get x at) (sym (o.sent task)) ∙ h));
        for_unit = λ task. let s = o.sent task in rw s tt;
        returned = λ task. let b = o.back task in let g = o.got task in rw (p, u, b, g) refl;
        legal = o.legal;
        settled = t.2;
      } where
        none : (at : ℕ) (r : Piece) → slice_get [] at ≡ Some r → ⊥
        none at r h = cc

  -- AND EVERY LIST OF STEPS
  pub steps-kept : (first last : World D) → IsOpening meaning first → Reaches meaning first last → Kept last
  steps-kept first last o Stay = opening-kept first o
  steps-kept first last o (Go {old} reaches step) = step-kept old last (steps-kept first old o reaches) step
