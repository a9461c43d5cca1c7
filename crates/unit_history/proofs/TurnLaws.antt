-- The turns of a program that follow one another, and the entries of an event.
use Rattle.std.proofs.Common.{◌≡◌, ◌≤◌, ◌<◌, ℕ, suc, ◌+◌, Option, Some, None, List, [], ◌∷◌, length, refl, ap, ◌∙◌, arith}
use Rattle.std.proofs.Common.{min, sum, drop, take, subst, length-drop, ◌-◌}
use Rattle.std.proofs.lemmas.Grind.{common_steps}
use Rattle.std.proofs.lemmas.Option.{get_or_from_slice_get, slice_get_read, slice_get_within}
use Rattle.std.proofs.Math.Seq.{drop-cons}
use Rattle.std.proofs.lemmas.List.Sums.{sum_by-cons}
use Rattle.std.proofs.Common.{add-one}
use Rattle.std.proofs.lemmas.List.{drop_all, take_all}
use Rattle.std.specs.Prelude.{slice_get, slice_index_or}
use Rattle.request_piece.specs.declared.piece.Name.{Name}
use Rattle.unit_book.specs.declared.entry.Entry.{Entry}
use Rattle.unit_book.proofs.Lists.{same-refl}
use Rattle.unit_history.specs.declared.event.EventKind.{EventKind}
unfoldable use Rattle.unit_history.specs.Events.{turns}
use Rattle.unit_history.specs.Events.{TellsEntry, entries_of, turn, turns_by}

-- the entries from a place on
pub rest-at : (es : List Entry) (i : ℕ) (e : Entry) → slice_get es i ≡ Some e → drop i es ≡ e ∷ drop (i + 1) es
rest-at es i e h =
    rw (add-one) (drop-cons es i e (slice_get_within es i e h) ∙ ap (λ x. x ∷ drop (suc i) es) (get_or_from_slice_get es i e e h))

-- one turn more
pub turns-more : (n : Name) (e : Entry) (es : List Entry) (j : ℕ) → turn n e ≡ Some j → turns n (e ∷ es) ≡ j ∷ turns n es
unfolding turns
turns-more n e es j h = rw h refl

-- no turn
pub turns-end : (n : Name) (e : Entry) (es : List Entry) → turn n e ≡ None → turns n (e ∷ es) ≡ []
unfolding turns
turns-end n e es h = rw h refl

-- no entry is a turn
pub turns-none : (n : Name) → turns n [] ≡ []
unfolding turns
turns-none n = refl

-- the turns from a place on, where a turn is
pub turns-at : (n : Name) (es : List Entry) (i : ℕ) (e : Entry) (j : ℕ) → i < length es → e ≡ slice_index_or es i e → turn n e ≡ Some j →
    turns n (drop i es) ≡ j ∷ turns n (drop (i + 1) es)
turns-at n es i e j few is h =
    ap (turns n) (rest-at es i e (slice_get_read es (length es) i e refl few is)) ∙ turns-more n e (drop (i + 1) es) j h

-- and where none is
pub turns-at_end : (n : Name) (es : List Entry) (i : ℕ) (e : Entry) → i < length es → e ≡ slice_index_or es i e → turn n e ≡ None →
    turns n (drop i es) ≡ []
turns-at_end n es i e few is h =
    ap (turns n) (rest-at es i e (slice_get_read es (length es) i e refl few is)) ∙ turns-end n e (drop (i + 1) es) h

pub turns-past : (n : Name) (es : List Entry) (i : ℕ) → length es ≤ i → turns n (drop i es) ≡ []
turns-past n es i h = ap (turns n) (drop_all i es h) ∙ turns-none n

-- there are no more turns than entries
pub turns-few : (n : Name) (es : List Entry) → length (turns n es) ≤ length es
unfolding turns
turns-few n [] = omega arith
turns-few n (e ∷ es) = by_turn (turn n e) (turns-few n es) where
  by_turn : (o : Option ℕ) → length (turns n es) ≤ length es → length (turns_by o (turns n es)) ≤ length (e ∷ es)
  by_turn None h = omega arith
  by_turn (Some j) h = omega (arith, h)

-- an event is of one entry at least
pub entries-some : (room : ℕ) (H : List Entry) (e : Entry) (es : List Entry) (kind : EventKind) → TellsEntry room H e (e ∷ es) kind →
    1 ≤ entries_of kind
unfolding turns
entries-some room H e es kind h = grind (arith, common_steps, same-refl)

-- and of no more than there are
pub entries-few : (room : ℕ) (H : List Entry) (e : Entry) (es : List Entry) (kind : EventKind) → TellsEntry room H e (e ∷ es) kind →
    entries_of kind ≤ length (e ∷ es)
entries-few room H e es kind h = grind (arith, common_steps, turns-few)

-- a sum that stops at a largest number
pub least-more : (m c j s t c' : ℕ) → c' ≡ min (c + j) m → min m (c + (j + s)) ≡ min m t → min m (c' + s) ≡ min m t
least-more m c j s t c' e h = omega (arith, e, h)

pub least-end : (m c t : ℕ) → c ≤ m → min m (c + 0) ≡ min m t → c ≡ min m t
least-end m c t few h = omega (arith, few, h)

pub sum-cons : (j : ℕ) (js : List ℕ) → sum (j ∷ js) ≡ j + sum js
sum-cons j js = sum_by-cons (λ x. x) j js

-- THE NEXT EVENT: it is of one entry at least, and of no more than there are
pub record NextEvent (room : ℕ) (H es : List Entry) (done : ℕ) (e : Entry) (kind : EventKind) : Type 0 where
  pub some : 1 ≤ entries_of kind
  pub few : done + entries_of kind ≤ length es
  pub here : slice_get es done ≡ Some e
  pub tells : TellsEntry room H e (drop done es) kind

pub next-event : (room : ℕ) (H es : List Entry) (done : ℕ) (e : Entry) (kind : EventKind) → done < length es →
    e ≡ slice_index_or es done e → TellsEntry room H e (take (length es - done) (drop done es)) kind → NextEvent room H es done e kind
next-event room H es done e kind below is tells =
    let here = slice_get_read es (length es) done e refl below is in
    let rest = rest-at es done e here in
    let all : take (length es - done) (drop done es) ≡ drop done es = take_all _ _ (rw length-drop (omega arith)) in
    let t : TellsEntry room H e (drop done es) kind = subst (λ xs. TellsEntry room H e xs kind) all tells in
    let u : TellsEntry room H e (e ∷ drop (done + 1) es) kind = subst (λ xs. TellsEntry room H e xs kind) rest t in
    record {
      some = entries-some room H e (drop (done + 1) es) kind u;
      few = omega (arith, entries-few room H e (drop (done + 1) es) kind u, below, length-drop (done + 1) es);
      here = here;
      tells = t;
    }
