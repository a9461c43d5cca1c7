-- What the holds of a unit keep of it.
use Rattle.std.proofs.Common.{◌≡◌, Bool, ◌<◌, ℕ, List, [], ◌∷◌, ◌++◌, length, drop, refl, sym, ap, ◌∙◌, subst, arith}
use Rattle.std.specs.Prelude.{IfOk, OnErr, Some, slice_get, slice_set}
use Rattle.std.specs.declared.result.Result.{Result}
use Rattle.std.proofs.lemmas.List.{append-nil, get_or-set_same, get_or-set_other}
use Rattle.std.proofs.Math.ListN.{length-set}
use mathlib.Core.Logic.{dite}
use native.Mathlib.Decide.{ℕ_discrete}
use Rattle.device_port.specs.Meaning.{Meaning}
use Rattle.request_piece.specs.PostedState.{PostedState}
use Rattle.request_piece.specs.declared.piece.Piece.{Piece}
use Rattle.unit_book.specs.Lists.{Each}
use Rattle.unit_book.specs.Trace.{arrivals}
use Rattle.unit_book.specs.Legal.{Legal, Free, due}
use Rattle.unit_book.specs.Posts.{posted, posted_value}
use Rattle.unit_book.specs.Book.{Book, given}
use Rattle.unit_book.proofs.WorldBooks.{Keeps, Sound, keeps-same}
use Rattle.unit_book.proofs.Facts.{Each-behind}
use Rattle.unit_book.proofs.Kept.{Inherits, either_way, given-keeps, out-of}
use Rattle.fifo_row.specs.Ends.{Sending, Taking}
use Rattle.fifo_row.specs.Lists.{of_sender}
use Rattle.fifo_row.proofs.Filters.{of-snoc_same, of-snoc_other}
use Rattle.excp_system.specs.declared.item.Notice.{Notice}
use Rattle.excp_system.specs.Sites.{SiteRows, intake_rows, notice_rows, for_task, taker_of, end_of}
use Rattle.excp_system.specs.Fans.{FanState, sent_to}
use Rattle.excp_system.specs.States.{AreOf, IsUnit, Locked}

Each-first : {X : Type 0} (P : X → Type 0) (xs : List X) (x : X) → Each P xs → Some x ≡ slice_get xs 0 → P x
Each-first P [] x h e = absurd cc
Each-first P (y ∷ xs) x h e = let i : y ≡ x = cc in subst P i h.0

-- the first item of a list stands before the rest
pub first-rest : {X : Type 0} (xs : List X) (x : X) → Some x ≡ slice_get xs 0 → x ∷ drop 1 xs ≡ xs
first-rest [] x e = absurd cc
first-rest (y ∷ xs) x e = let i : x ≡ y = cc in ap (λ z. z ∷ xs) i

-- a unit with this end of a notice row
abbrev pub locked : {D : Type 0} → ℕ → Book D → Sending Notice → Bool → Locked D
locked unit book notice owes = record { unit = unit; book = book; notified = notice.sent; owes = owes }

module _ {D : Type 0} (meaning : Meaning D) where
  module _ (s : SiteRows) (unit : ℕ) (old : Book D) (intake : Taking Piece) (back : FanState PostedState) (notice : Sending Notice)
      (owes : Bool)
      (is : IsUnit meaning s (locked unit old notice owes) intake back notice)
      (all : given meaning old ++ old.out ≡ posted meaning old.mounted old.trace) where
    -- what a book keeps, a unit keeps, whether it owes a notice or not
    pub unit-keeps : (new : Book D) (owing : Bool) → Keeps meaning old [] new →
        IsUnit meaning s (locked unit new notice owing) intake back notice
    unit-keeps new owing k =
        let a : arrivals new.trace ≡ arrivals old.trace = k.arrived ∙ append-nil (arrivals old.trace) in
        record {
          of_site = is.of_site;
          intake_is = is.intake_is ∙ ap (taker_of (intake_rows s) s.tasks unit) (sym a);
          back_is = is.back_is;
          count = is.count;
          sent = λ task lt. is.sent task lt ∙ ap (of_sender for_task task) (sym (given-keeps meaning all k));
          notice_is = is.notice_is ∙ ap (λ isc. end_of (notice_rows s) unit isc notice.sent) (sym k.isc);
          of_unit = subst (AreOf s unit) (sym a) is.of_unit;
        }

    -- so it is with a call that changes nothing where it is refused
    pub unit-call : {A E : Type 0} (r : Result A E) {Done : A → Type 0} (new : Book D) (owing : Bool) →
        Legal meaning old.mounted old.trace → due meaning old.mounted old.trace ≡ Free →
        IfOk r Done → OnErr r (new ≡ old) → (Sound meaning old → (a : A) → Done a → Keeps meaning old [] new) →
        IsUnit meaning s (locked unit new notice owing) intake back notice
    unit-call r new owing legal settled done refused keeps =
        let sound : Sound meaning old = record { legal = legal; settled = settled } in
        unit-keeps new owing (either_way r done refused (keeps sound) (keeps-same meaning sound))

    -- a request that arrives
    pub unit-takes : (new : Book D) (r : Piece) (intake' : Taking Piece) → Keeps meaning old (r ∷ []) new → r.name.task < s.tasks →
        r.unit ≡ unit →
        intake' ≡ record intake { taken = intake.taken ++ r ∷ [] } → IsUnit meaning s (locked unit new notice owes) intake' back notice
    unit-takes new r intake' k lt mine taken = record {
      of_site = is.of_site;
      intake_is = taken ∙ ap (λ (t : Taking Piece). record t { taken = t.taken ++ r ∷ [] }) is.intake_is
          ∙ ap (taker_of (intake_rows s) s.tasks unit) (sym k.arrived);
      back_is = is.back_is;
      count = is.count;
      sent = λ task lt. is.sent task lt ∙ ap (of_sender for_task task) (sym (given-keeps meaning all k));
      notice_is = is.notice_is ∙ ap (λ isc. end_of (notice_rows s) unit isc notice.sent) (sym k.isc);
      of_unit = subst (AreOf s unit) (sym k.arrived) (Each-behind _ (arrivals old.trace) r is.of_unit (lt, mine));
    }

    -- the first value that is out is for one of the tasks, and of this unit
    pub first-is : (value : PostedState) → Legal meaning old.mounted old.trace → Some value ≡ slice_get old.out 0 →
        (value.name.task < s.tasks) × (value.unit ≡ unit)
    unfolding posted_value
    first-is value legal first =
        let inherits : Inherits (λ r. (r.name.task < s.tasks) × (r.unit ≡ unit)) (λ v. (v.name.task < s.tasks) × (v.unit ≡ unit))
        = record { posts = λ r csw sense code m h. h } in
        Each-first (λ v. (v.name.task < s.tasks) × (v.unit ≡ unit)) old.out value (out-of meaning inherits old legal all is.of_unit) first

    -- a posted value that is sent back
    pub unit-delivers : (new : Book D) (value : PostedState) (back' : FanState PostedState) → new ≡ record old { out = drop 1 old.out } →
        given meaning new ≡ given meaning old ++ value ∷ [] → value.name.task < s.tasks →
        back' ≡ record { number = back.number; sent = slice_set back.sent value.name.task (sent_to back value.name.task ++ value ∷ []) } →
        IsUnit meaning s (locked unit new notice owes) intake back' notice
    unit-delivers new value back' same gave lt sends =
        let t = value.name.task in
        let more = sent_to back t ++ value ∷ [] in
        record {
          of_site = is.of_site;
          intake_is = is.intake_is ∙ ap (λ (b : Book D). taker_of (intake_rows s) s.tasks unit (arrivals b.trace)) (sym same);
          back_is = ap (λ (f : FanState PostedState). f.number) sends ∙ is.back_is;
          count = ap (λ (f : FanState PostedState). length f.sent) sends ∙ length-set back.sent t more ∙ is.count;
          sent = λ task here. ap (λ (f : FanState PostedState). sent_to f task) sends ∙ dite (ℕ_discrete t task)
              (λ e. ap (λ k. sent_to (record { number = back.number; sent = slice_set back.sent t more }) k) (sym e)
              ∙ get_or-set_same back.sent t more [] (omega (arith, is.count, lt))
              ∙ ap (λ l. l ++ value ∷ []) (is.sent t lt)
              ∙ sym (of-snoc_same for_task t value (given meaning old) refl)
              ∙ ap (λ k. of_sender for_task k (given meaning old ++ value ∷ [])) e ∙ ap (of_sender for_task task) (sym gave))
              (λ e. get_or-set_other back.sent t task more [] (λ q. e (sym q)) ∙ is.sent task here
              ∙ sym (of-snoc_other for_task task value (given meaning old) e) ∙ ap (of_sender for_task task) (sym gave));
          notice_is = is.notice_is ∙ ap (λ (b : Book D). end_of (notice_rows s) unit b.isc notice.sent) (sym same);
          of_unit = subst (λ (b : Book D). AreOf s unit (arrivals b.trace)) (sym same) is.of_unit;
        }
