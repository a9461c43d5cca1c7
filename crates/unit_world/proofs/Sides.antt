-- A call of a unit itself: a request is accepted, or arrives.
use Rattle.std.proofs.Common.{◌≡◌, ◌<◌, ℕ, ◌+◌, eqb, Option, Some, None, List, length, refl, sym, ap, ◌∙◌, subst, inl, inr}
use Rattle.std.specs.Prelude.{slice_get}
use Rattle.std.proofs.lemmas.Bool.{cases_Bool}
use Rattle.std.proofs.lemmas.Option.{get_or_from_slice_get, slice_get_within}
use Rattle.std.proofs.Math.ListN.{length-set}
use Rattle.device_port.specs.Meaning.{Meaning}
use Rattle.request_piece.specs.declared.piece.Name.{Name}
use Rattle.request_piece.specs.declared.piece.Piece.{Piece}
use Rattle.unit_book.specs.declared.answer.Intake.{Intake}
use Rattle.unit_book.specs.declared.answer.Intake.TheVariants as intake
use Rattle.unit_world.specs.Parts.{UnitPart, HasNextNumber, PartAccepts, PartTakes, issued_by, next_name_from, next_name_of}
use Rattle.unit_world.specs.States.{WorldState, IsWorldState}
use Rattle.unit_world.proofs.States.{next-number, state-spare, state-step}
use Rattle.unit_world.proofs.Steps.{accepts, takes}

-- THE NEXT NAME of a task is of a task that there is, and its number is one more than what the task sent
pub record IsNextName (issued : List ℕ) (name : Name) : Type 0 where
  pub of_task : name.task < length issued
  pub next : name.seq ≡ issued_by issued name.task + 1

pub next-name : (issued : List ℕ) (name : Name) → next_name_of issued name.task ≡ Some name → IsNextName issued name
next-name issued name h = by_count (slice_get issued name.task) refl h where
  by_count : (r : Option ℕ) → slice_get issued name.task ≡ r → next_name_from name.task r ≡ Some name → IsNextName issued name
  by_count None e f = absurd cc
  by_count (Some count) e f = elim (cases_Bool (eqb count 4294967295)) [
    | inl last ↦ let g : None ≡ Some name = rw last at f in absurd cc
    | inr more ↦
        let g : Some (record { task = name.task; seq = count + 1 }) ≡ Some name = rw more at f in
        let same : record { task = name.task; seq = count + 1 } ≡ name = cc in
        record {
          of_task = slice_get_within issued name.task count e;
          next = sym (ap (λ (n : Name). n.seq) same) ∙ ap (λ n. n + 1) (sym (get_or_from_slice_get issued name.task count 0 e));
        }
  ]

module _ {D : Type 0} (meaning : Meaning D) (v : WorldState D) (is : IsWorldState meaning v) where
  pub part-next : HasNextNumber v.part
  part-next r first = next-number meaning v r is first

  pub part-accepted : (r : Piece) (q : UnitPart D) → r.unit ≡ v.unit → PartAccepts v.part r q →
      IsWorldState meaning (record v { part = q })
  part-accepted r q of_unit h = state-step meaning v (record v { part = q }) is
      (is.tasks ∙ sym (ap (λ (x : UnitPart D). length x.issued) h.is ∙ length-set v.part.issued r.name.task r.name.seq))
      (accepts meaning v q r of_unit h)

  pub part-taken : (answer : Intake) (q : UnitPart D) → PartTakes meaning v.part answer q → IsWorldState meaning (record v { part = q })
  part-taken intake.Held q h = subst (λ x. IsWorldState meaning (record v { part = x })) (sym h.1) is
  part-taken intake.Quiet q h =
      subst (λ x. IsWorldState meaning (record v { part = x })) (sym h.2) (state-spare meaning v q.book is (h.3).is)
  part-taken (intake.Took name) q h = state-step meaning v (record v { part = q }) is
      (is.tasks ∙ ap (λ (x : UnitPart D). length x.issued) (sym h.is)) (takes meaning v q name h)
