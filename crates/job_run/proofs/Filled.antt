-- What the slots of a task hold, step by step.
use Rattle.std.proofs.Common.{◌≡◌, ◌≤◌, List, [], ◌∷◌, ◌++◌, length, refl, sym, ap, ◌∙◌, arith, append_assoc, append-nil, length-append}
use Rattle.request_piece.specs.PostedState.{PostedState}
use Rattle.post_lines.specs.Slots.{SlotState, filled, filled_by_all}
use Rattle.job_run.specs.Filling.{FillsSlots}

by_all-append : (xs ys : List PostedState) (slots : List (List SlotState)) →
    filled_by_all (xs ++ ys) slots ≡ filled_by_all ys (filled_by_all xs slots)
by_all-append [] ys slots = refl
by_all-append (x ∷ xs) ys slots = by_all-append xs ys (filled x.unit x slots)

pub fills_none : (got : List PostedState) (s : List (List SlotState)) → FillsSlots got s got s
fills_none got s = record { values = []; got = sym (append-nil got); filled_is = refl }

pub fills_more : (old mid new : List PostedState) (a b c : List (List SlotState)) → FillsSlots old a mid b → FillsSlots mid b new c → FillsSlots old a new c
fills_more old mid new a b c n m = record {
  values = n.values ++ m.values;
  got = m.got ∙ ap (λ (l : List PostedState). l ++ m.values) n.got ∙ append_assoc old n.values m.values;
  filled_is = m.filled_is ∙ ap (filled_by_all m.values) n.filled_is ∙ sym (by_all-append n.values m.values a);
}

-- what a task has collected only grows
pub got_grows : (old new : List PostedState) (a b : List (List SlotState)) → FillsSlots old a new b → length old ≤ length new
got_grows old new a b f =
    let more = ap (λ (l : List PostedState). length l) f.got ∙ length-append old f.values in
    omega (arith, more)
