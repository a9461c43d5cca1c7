-- The steps that calls make of every world that looks as the state did.
use Rattle.std.proofs.Common.{◌≡◌, ◌<◌, ℕ, ◌+◌, eqb, Some, List, [], ◌∷◌, ◌++◌, length, drop, refl, sym, ap, ◌∙◌, subst, inl}
use Rattle.std.proofs.Common.{inr, arith, length-append}
use Rattle.std.specs.Prelude.{slice_get, slice_set, slice_index_or}
use mathlib.Core.Logic.{dite}
use native.Mathlib.Decide.{dec_lt}
use Rattle.std.proofs.lemmas.Bool.{cases_Bool, eqb-true, eq-eqb, false≢true}
use Rattle.std.proofs.lemmas.List.{get_or-set_same, get_or-set_other, get_or_past}
use Rattle.device_port.specs.Meaning.{Meaning}
use Rattle.io_images.specs.declared.extent.Extent.{Extent}
use Rattle.request_piece.specs.PostedState.{PostedState}
use Rattle.request_piece.specs.declared.piece.Name.{Name}
use Rattle.request_piece.specs.declared.piece.Piece.{Piece}
use Rattle.unit_book.specs.declared.dcb.ProcessingMethod.{ProcessingMethod}
use Rattle.unit_book.specs.declared.step.UnitAnswer.{UnitAnswer}
use Rattle.unit_book.specs.declared.step.UnitAnswer.TheVariants as unit_answer
use Rattle.unit_book.specs.declared.step.UnitStep.{UnitStep}
use Rattle.unit_book.specs.declared.step.UnitStep.TheVariants as unit_step
use Rattle.unit_book.specs.Answers.{OpensBook}
use Rattle.unit_book.specs.Book.{Book}
use Rattle.unit_book.specs.Steps.{StepsBook}
use Rattle.unit_book.specs.Settle.{Settles, Stays, Then, Steps, ByStart, ByRun, ByInterrupt}
use Rattle.unit_book.specs.World.{World, Step, Accept, Take, Open, Call, Deliver, Collect, Stay, Go, one_more_of_task, without_first}
use Rattle.unit_world.specs.PostLists.{list_of}
use Rattle.unit_world.specs.Parts.{UnitPart, PartAccepts, PartTakesOne, issued_by}
use Rattle.unit_world.specs.States.{WorldState, Shows, StepFrom, StepsFrom, StepName, MakesStep, MakesSteps, step_name, with_spare}
use Rattle.unit_world.specs.States.{AcceptStep, TakeStep, OpenStep, CallStep, DeliverStep, CollectStep}
use Rattle.unit_world.proofs.Moves.{CollectsValue, DeliversValue, with_book}
use Rattle.unit_world.proofs.Spares as spare

-- the world that looks so, with this room for entries, these lists and these counts
abbrev pub world_of : {D : Type 0} → WorldState D → ℕ → (ℕ → List Piece) → (ℕ → List PostedState) → (ℕ → List PostedState) → World D
world_of v s sent back got = record {
  unit = v.unit;
  intake_room = v.part.intake_room;
  post_room = v.post_room;
  sent = sent;
  flight = v.part.flight;
  book = with_spare s v.part.book;
  back = back;
  got = got;
}

-- one more item of a task, beside lists by place
more-is : {X : Type 0} (lists : ℕ → List X) (xs : List (List X)) (task : ℕ) (x : X) → ((t : ℕ) → lists t ≡ slice_index_or xs t []) →
    task < length xs → (t : ℕ) → one_more_of_task lists task x t ≡ slice_index_or
    (slice_set xs task (slice_index_or xs task [] ++ x ∷ [])) t []
more-is lists xs task x h lt t =
    let more = slice_index_or xs task [] ++ x ∷ [] in
    elim (cases_Bool (eqb task t)) [
      | inl e ↦
          let same = get_or-set_same xs task more [] lt in
          rw e (ap (λ l. l ++ x ∷ []) (h t)
          ∙ sym (subst (λ k. slice_index_or (slice_set xs task more) k [] ≡ slice_index_or xs k [] ++ x ∷ []) (eqb-true task t e) same))
      | inr e ↦ rw e (h t ∙ sym (get_or-set_other xs task t more [] (λ q. false≢true (sym e ∙ eq-eqb task t (sym q)))))
    ]

-- the first item of a task is gone, beside lists by place
less-is : {X : Type 0} (lists : ℕ → List X) (xs : List (List X)) (task : ℕ) → ((t : ℕ) → lists t ≡ slice_index_or xs t []) →
    task < length xs → (t : ℕ) → without_first lists task t ≡ slice_index_or (slice_set xs task (drop 1 (slice_index_or xs task []))) t []
less-is lists xs task h lt t =
    let less = drop 1 (slice_index_or xs task []) in
    elim (cases_Bool (eqb task t)) [
      | inl e ↦
          let same = get_or-set_same xs task less [] lt in
          rw e (ap (drop 1) (h t)
          ∙ sym (subst (λ k. slice_index_or (slice_set xs task less) k [] ≡ drop 1 (slice_index_or xs k [])) (eqb-true task t e) same))
      | inr e ↦ rw e (h t ∙ sym (get_or-set_other xs task t less [] (λ q. false≢true (sym e ∙ eq-eqb task t (sym q)))))
    ]

-- a task whose list has a first item is one of the tasks
pub has-list : {X : Type 0} (xs : List (List X)) (task : ℕ) (x : X) → slice_get (slice_index_or xs task []) 0 ≡ Some x → task < length xs
has-list xs task x first = dite (dec_lt task (length xs)) (λ lt. lt)
    (λ no. absurd (none (get_or_past xs task [] (omega (arith, no))) first)) where
      none : {X : Type 0} {l : List X} {x : X} → l ≡ [] → slice_get l 0 ≡ Some x → ⊥
      none {X} {l} {x} e f = let g = subst (λ (k : List X). slice_get k 0 ≡ Some x) e f in absurd cc

-- one more request of a task, beside counts by place
count-is : (sent : ℕ → List Piece) (issued : List ℕ) (task seq : ℕ) (r : Piece) → ((t : ℕ) → length (sent t) ≡ issued_by issued t) →
    task < length issued → seq ≡ issued_by issued task + 1 → (t : ℕ) →
    length (one_more_of_task sent task r t) ≡ issued_by (slice_set issued task seq) t
count-is sent issued task seq r h lt next t =
    elim (cases_Bool (eqb task t)) [
      | inl e ↦
          let q = eqb-true task t e in
          let same = subst (λ k. issued_by (slice_set issued task seq) k ≡ seq) q (get_or-set_same issued task seq 0 lt) in
          let before = subst (λ k. seq ≡ issued_by issued k + 1) q next in
          rw e (omega (arith, length-append (sent t) (r ∷ []), h t, same, before))
      | inr e ↦ rw e (h t ∙ sym (get_or-set_other issued task t seq 0 (λ q. false≢true (sym e ∙ eq-eqb task t (sym q)))))
    ]

module _ {D : Type 0} (meaning : Meaning D) where
  shown-is : (w : World D) (v : WorldState D) → Shows w v → w ≡ world_of v w.book.spare w.sent w.back w.got
  shown-is w v h = λ i. record {
    unit = h.unit i;
    intake_room = h.intake_room i;
    post_room = h.post_room i;
    sent = w.sent;
    flight = h.flight i;
    book = h.book i;
    back = w.back;
    got = w.got;
  }

  -- the step of this name from one world to another
  abbrev NamedStep : StepName → World D → World D → Type 0
  NamedStep name w x = (step : Step meaning w x) × (step_name meaning step ≡ name)

  -- a step of the world with these lists is a step of each world that looks so
  from-lists : (old new : WorldState D) (name : StepName) → ((s : ℕ) (sent : ℕ → List Piece) (back got : ℕ → List PostedState) →
      ((task : ℕ) → back task ≡ list_of old.back task) → ((task : ℕ) → length (sent task) ≡ issued_by old.part.issued task) →
      StepFrom meaning name (world_of old s sent back got) new) → MakesStep meaning name old new
  from-lists old new name f w h =
      subst (λ x. StepFrom meaning name x new) (sym (shown-is w old h)) (f w.book.spare w.sent w.back w.got h.back h.sent)

  -- A CALL OF A UNIT: nothing but the unit changes
  module _ (v : WorldState D) (q : UnitPart D) where
    -- a call of the book
    in-book : (name : StepName) → q ≡ record v.part { book = q.book } →
        ((s : ℕ) (sent : ℕ → List Piece) (back got : ℕ → List PostedState) →
        NamedStep name (world_of v s sent back got) (world_of (with_book v q.book) s sent back got)) →
        MakesStep meaning name v (record v { part = q })
    in-book name same f = from-lists v (record v { part = q }) name (λ s sent back got b l.
        let t = f s sent back got in
        record {
          after = world_of (with_book v q.book) s sent back got;
          step = t.0;
          named = t.1;
          shows = subst (λ (p : UnitPart D). Shows (world_of (with_book v q.book) s sent back got) (record v { part = p })) (sym same)
              (record { unit = refl; intake_room = refl; post_room = refl; flight = refl; book = refl; back = b; sent = l });
        })

    pub opens : (dcb : ℕ) (method : ProcessingMethod) (extents : List Extent) → q ≡ record v.part { book = q.book } →
        OpensBook meaning v.part.book dcb method extents q.book → MakesStep meaning (OpenStep dcb method extents) v (record v { part = q })
    opens dcb method extents same h = in-book (OpenStep dcb method extents) same (λ s sent back got.
        (Open dcb method extents (spare.opens meaning s v.part.book q.book dcb method extents h) refl, refl))

    pub calls : (step : UnitStep) (answer : UnitAnswer) → q ≡ record v.part { book = q.book } →
        StepsBook meaning v.part.book step answer q.book → MakesStep meaning (CallStep step answer) v (record v { part = q })
    calls step answer same h = in-book (CallStep step answer) same (λ s sent back got.
        (Call step answer (spare.steps meaning s v.part.book q.book step answer h) refl, refl))

    pub accepts : (r : Piece) → r.unit ≡ v.unit → PartAccepts v.part r q → MakesStep meaning (AcceptStep r) v (record v { part = q })
    accepts r of_unit h = from-lists v (record v { part = q }) (AcceptStep r) (λ s sent back got b l.
        let more = one_more_of_task sent r.name.task r in
        let after = record (world_of v s sent back got) { sent = more; flight = v.part.flight ++ r ∷ [] } in
        record {
          after = after;
          step = Accept r (record { of_unit = of_unit; next = h.next ∙ ap (λ n. n + 1) (sym (l r.name.task)); room = h.room; is = refl });
          named = refl;
          shows = subst (λ (p : UnitPart D). Shows after (record v { part = p })) (sym h.is) (record {
            unit = refl;
            intake_room = refl;
            post_room = refl;
            flight = refl;
            book = refl;
            back = b;
            sent = count-is sent v.part.issued r.name.task r.name.seq r l h.of_task h.next;
          });
        })

    pub takes : (name : Name) → PartTakesOne meaning v.part name q → MakesStep meaning (TakeStep name) v (record v { part = q })
    takes name h = from-lists v (record v { part = q }) (TakeStep name) (λ s sent back got b l.
        let after = record (world_of v s sent back got) { flight = drop 1 v.part.flight; book = with_spare s q.book } in
        record {
          after = after;
          step = Take (record { request = h.request; first = h.first; room = h.room; arrives = ap (with_spare s) h.arrives; is = refl });
          named = ap TakeStep h.named;
          shows = subst (λ (p : UnitPart D). Shows after (record v { part = p })) (sym h.is)
              (record { unit = refl; intake_room = refl; post_room = refl; flight = refl; book = refl; back = b; sent = l });
        })

  pub delivers : (old new : WorldState D) (value : PostedState) (name : Name) → DeliversValue old value name new →
      MakesStep meaning (DeliverStep name) old new
  delivers old new value name h = from-lists old new (DeliverStep name) (λ s sent back got b l.
      let after : Name → World D = λ n. record (world_of old s sent back got) {
        book = record old.part.book { out = drop 1 old.part.book.out; spare = s };
        back = one_more_of_task back n.task value;
      } in
      record {
        after = after value.name;
        step = Deliver (record {
          value = value;
          first = h.first;
          room = subst (λ (n : Name). length (back n.task) < old.post_room) (sym h.named)
              (subst (λ x. length x < old.post_room) (sym (b name.task)) h.room);
          is = refl;
        });
        named = ap DeliverStep h.named;
        shows = subst (λ n. Shows (after n) new) (sym h.named) (subst (Shows (after name)) (sym h.is) (record {
          unit = refl;
          intake_room = refl;
          post_room = refl;
          flight = refl;
          book = refl;
          back = more-is back old.back name.task value b h.of_task;
          sent = l;
        }));
      })

  pub collects : (old new : WorldState D) (task : ℕ) (value : PostedState) → slice_get (list_of old.back task) 0 ≡ Some value →
      CollectsValue old task new → MakesStep meaning (CollectStep task value.name) old new
  collects old new task value first h = from-lists old new (CollectStep task value.name) (λ s sent back got b l.
      let after = record (world_of old s sent back got) { back = without_first back task; got = one_more_of_task got task value } in
      record {
        after = after;
        step = Collect task (record { value = value; first = ap (λ x. slice_get x 0) (b task) ∙ first; is = refl });
        named = refl;
        shows = subst (Shows after) (sym h) (record {
          unit = refl;
          intake_room = refl;
          post_room = refl;
          flight = refl;
          book = refl;
          back = less-is back old.back task b (has-list old.back task value first);
          sent = l;
        });
      })

  -- starts, runs and interruptions: one more of them after a list of steps
  service : (v : WorldState D) (mid book : Book D) (w : World D) → StepsFrom meaning w (with_book v mid) → Steps meaning mid book →
      StepsFrom meaning w (with_book v book)
  service v mid book w before step = after step where
    then-one : {name : StepName} → MakesStep meaning name (with_book v mid) (with_book v book) → StepsFrom meaning w (with_book v book)
    then-one f =
        let next = f before.after before.shows in
        record { after = next.after; steps = Go before.steps next.step; shows = next.shows }

    part : UnitPart D
    part = record v.part { book = book }

    after : Steps meaning mid book → StepsFrom meaning w (with_book v book)
    after (ByStart answer h) = then-one (calls (with_book v mid) part unit_step.Start (unit_answer.Started answer) refl h)
    after (ByRun max answer some h) = then-one (calls (with_book v mid) part (unit_step.Run max) (unit_answer.Ran answer) refl (some, h))
    after (ByInterrupt answer h) = then-one (calls (with_book v mid) part unit_step.Interrupt (unit_answer.Interrupted answer) refl h)

  pub settles : (v : WorldState D) (book : Book D) → Settles meaning v.part.book book → MakesSteps meaning v (with_book v book)
  settles v _ Stays w h = record { after = w; steps = Stay; shows = h }
  settles v book (Then {mid} before step) w h = service v mid book w (settles v mid before w h) step
