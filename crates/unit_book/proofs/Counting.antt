-- What the entries of a trace add to the arrivals of a task: only an arrival adds one, and the other calls of a
-- book add none.
use Rattle.unit_book.proofs.Names.{◌≡◌, ℕ, ◌+◌, ◌==◌, Bool, List, [], ◌∷◌, length, refl, ap, if◌then◌else◌, filter, Piece, Entry, Arrive}
use Rattle.unit_book.proofs.Names.{Extent, Meaning, Starting, Interruption, StartsBook, RunsBook, InterruptsBook, Book, arrivals}
use Rattle.unit_book.proofs.Names.{arrived_of, all_posted, after_dooms, doomed, ProcessingMethod, arith}
use Rattle.unit_book.specs.declared.answer.Running.{Running}
use Rattle.unit_book.specs.Answers.{OpensBook}
use Rattle.std.proofs.lemmas.Grind.{common_steps}

-- posts add none
arrivals-all_posted : (rs : List Piece) (H : List Entry) → arrivals (all_posted rs H) ≡ arrivals H
unfolding arrivals
arrivals-all_posted [] H = refl
arrivals-all_posted (r ∷ rs) H = arrivals-all_posted rs _

pub arrivals-after_dooms : (H : List Entry) → arrivals (after_dooms H) ≡ arrivals H
arrivals-after_dooms H = arrivals-all_posted (doomed H) H

one_more : (b : Bool) (task : ℕ) (r : Piece) → (r.name.task == task) ≡ b → length (filter (λ (p : Piece). p.name.task == task) (r ∷ []))
    ≡ (if b then 1 else 0)
one_more v0 task r e = grind (arith, common_steps)

pub arrived_of-arrive : (b : Bool) (task : ℕ) (r : Piece) (H : List Entry) → (r.name.task == task) ≡ b →
    arrived_of task (Arrive r ∷ H) ≡ arrived_of task H + (if b then 1 else 0)
unfolding arrivals
arrived_of-arrive b task r H e = grind (arith, common_steps)

-- the other calls of a book add no arrival
module _ {D : Type 0} (meaning : Meaning D) where
  pub starts-keep : (old : Book D) (answer : Starting) (new : Book D) → StartsBook meaning old answer new →
      arrivals new.trace ≡ arrivals old.trace
  unfolding arrivals
  starts-keep old v1 new h = grind (arith, common_steps, arrivals-after_dooms)

  pub runs-keep : (old : Book D) (max : ℕ) (answer : Running) (new : Book D) → RunsBook meaning old max answer new →
      arrivals new.trace ≡ arrivals old.trace
  unfolding arrivals
  runs-keep old max v2 new h = grind (arith, common_steps)

  pub interrupts-keep : (old : Book D) (answer : Interruption) (new : Book D) → InterruptsBook meaning old answer new →
      arrivals new.trace ≡ arrivals old.trace
  unfolding arrivals
  interrupts-keep old v1 new h = grind (arith, common_steps, arrivals-after_dooms)

  pub opens-keep : {old new : Book D} {dcb : ℕ} {method : ProcessingMethod} {extents : List Extent} →
      OpensBook meaning old dcb method extents new → arrivals new.trace ≡ arrivals old.trace
  unfolding arrivals
  opens-keep h = ap (λ (b : Book D). arrivals b.trace) h.adds
