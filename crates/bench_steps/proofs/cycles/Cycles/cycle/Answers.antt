use Rattle.std.proofs.Common.{◌≡◌, ◌+◌, ◌∷◌, ◌∙◌, ap, sym, refl, true, List, ℕ, length, ◌==◌, rules}
use Rattle.std.specs.List.{filter}
use Rattle.request_piece.specs.declared.piece.Piece.{Piece}
use Rattle.unit_book.specs.declared.entry.Entry.{Entry}
use Rattle.unit_book.specs.declared.entry.Entry.TheVariants.{Arrive}
use Rattle.unit_book.specs.Trace.{arrivals, arrived_of}
use Rattle.unit_book.proofs.Counting.{arrived_of-arrive}
use Rattle.bench_steps.proofs.cycles.Cycles.cycle.Goals as goal

-- the count of a task's arrivals is that of another trace with the same arrivals
same_count : (G H : List Entry) → arrivals H ≡ arrivals G → arrived_of 0 H ≡ arrived_of 0 G
same_count G H e = ap (λ (l : List Piece). length (filter (λ (r : Piece). r.name.task == 0) l)) e

-- one more request of the task arrived
arrived : (seq : ℕ) (r : Piece) (G H : List Entry) → seq ≡ arrived_of 0 G + 1 → r.name.task ≡ 0 → arrivals H ≡ arrivals (Arrive r ∷ G) →
    arrived_of 0 H ≡ seq
arrived seq r G H next task same =
    let mine : (r.name.task == 0) ≡ true = rw task refl in
    same_count (Arrive r ∷ G) H same ∙ arrived_of-arrive true 0 r G mine ∙ sym next

pub returns : goal.returns
returns c =
    let next = rw (← c.self.view_is) at c.requires in
    arrived c.args.seq c.in-Ok.request c.self.inside.book.trace c.serve.new.book.trace next (search rules)
    (c.serve.ensures ∙ c.in_ok-admit.ensures.ok)
