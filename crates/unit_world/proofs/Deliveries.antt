-- Posts go into the rows of a site and out of them, and units come to it.
use Rattle.std.proofs.Common.{◌≡◌, ◌<◌, ◌⊎◌, ℕ, zero, suc, eqb, true, false, Option, Some, None, List, [], ◌∷◌, ◌++◌, length, set, drop}
use Rattle.std.proofs.Common.{replicate, refl, sym, ap, ◌∙◌, subst, inl, inr, arith, Bool, not, ◌&&◌, ◌==◌}
use Rattle.std.specs.Prelude.{slice_get, slice_index_or}
use Rattle.std.specs.List.{list_all}
use Rattle.std.proofs.lemmas.List.{get_or-set_same, get_or-set_other, length_push as length-push, length-map, length-replicate, set-get_or}
use Rattle.std.proofs.lemmas.Bool.{cases_Bool}
use Rattle.std.proofs.lemmas.Option.{slice_get_within}
use Rattle.std.proofs.Math.ListN.{length-set}
use mathlib.Core.Logic.{dite}
use native.Mathlib.Decide.{ℕ_discrete}
use Rattle.circular_buffer.proofs.Places.{slice_get-set_same, slice_get-some}
use Rattle.device_port.specs.Meaning.{Meaning}
use Rattle.request_piece.specs.PostedState.{PostedState}
use Rattle.request_piece.specs.declared.piece.Name.{Name}
use Rattle.unit_book.specs.declared.answer.Closing.{Closing}
use Rattle.io_images.specs.declared.extent.Extent.{Extent}
use Rattle.unit_book.specs.declared.dcb.ProcessingMethod.{ProcessingMethod}
use Rattle.unit_book.specs.Answers.{OpensBook}
use Rattle.unit_book.specs.Book.{Book, given}
use Rattle.unit_book.specs.Controls.{ClosesBook}
use Rattle.unit_book.specs.Legal.{Legal}
use Rattle.unit_book.specs.Lists.{Each}
use Rattle.unit_book.specs.Posts.{posted}
use Rattle.unit_book.specs.Trace.{is_opening}
use Rattle.unit_book.specs.declared.control.Control.TheVariants.{Close}
use Rattle.unit_book.specs.declared.control.Controlling.TheVariants.{Closed}
use Rattle.unit_book.specs.declared.step.UnitAnswer.TheVariants.{Controlled}
use Rattle.unit_book.specs.declared.step.UnitStep.TheVariants.{Control}
use Rattle.unit_world.specs.Parts.{UnitPart, opening_part}
use Rattle.unit_world.specs.PostLists.{list_of, with_value, without_value}
use Rattle.unit_world.specs.Sites.{SiteState, IsFirstOut, IsSite, KeepsOthers, StepsUnit, from_unit, world_at}
use Rattle.unit_world.specs.States.{WorldState, IsWorldState, MakesStep, StepName, CollectStep, DeliverStep}
use Rattle.unit_world.proofs.Moves.{DeliversValue}
use Rattle.unit_world.proofs.Sites.{eqb-other, fewer, first-own, from-row, less-other, less-own, others-stay, put-other, put-own, same-item}
use Rattle.unit_world.proofs.Sites.{site-keeps}
use Rattle.unit_world.proofs.States.{Each-first, all-same, no-rest, opened-out, state-opening, state-step}
use Rattle.unit_world.proofs.Steps.{collects, delivers, has-list}
use Rattle.unit_world.proofs.Steps.{calls, opens as opening}

Each-push : {X : Type 0} (P : X → Type 0) (xs : List X) (x : X) → Each P xs → P x → Each P (xs ++ x ∷ [])
Each-push P [] x h p = (p, tt)
Each-push P (y ∷ xs) x h p = (h.0, Each-push P xs x h.1 p)

Each-rest : {X : Type 0} (P : X → Type 0) (xs : List X) → Each P xs → Each P (drop 1 xs)
Each-rest P [] h = tt
Each-rest P (x ∷ xs) h = h.1

-- what holds of each list, after a change of one
after-set : {X : Type 0} (P : X → Type 0) (lists : List (List X)) (at : ℕ) (l : List X) → ((k : ℕ) → Each P (slice_index_or lists k [])) →
    (at < length lists → Each P l) → at < length lists → (k : ℕ) → Each P (slice_index_or (set lists at l) k [])
after-set P lists at l h here lt k = dite (ℕ_discrete k at)
    (λ e. subst (λ j. Each P (slice_index_or (set lists at l) j [])) (sym e)
    (subst (Each P) (sym (get_or-set_same lists at l [] lt)) (here lt)))
    (λ ne. subst (Each P) (sym (get_or-set_other lists at k l [] ne)) (h k))

-- what is at a place of a list with one more item
pub at-push : {X : Type 0} (xs : List X) (x y : X) (at : ℕ) → slice_get (xs ++ x ∷ []) at ≡ Some y →
    (slice_get xs at ≡ Some y) ⊎ ((at ≡ length xs) × (y ≡ x))
at-push [] x y zero h = inr (refl, cc)
at-push [] x y (suc at) h = absurd cc
at-push (z ∷ xs) x y zero h = inl h
at-push (z ∷ xs) x y (suc at) h = by_sum (at-push xs x y at h) where
  by_sum : (slice_get xs at ≡ Some y) ⊎ ((at ≡ length xs) × (y ≡ x)) →
      (slice_get (z ∷ xs) (suc at) ≡ Some y) ⊎ ((suc at ≡ length (z ∷ xs)) × (y ≡ x))
  by_sum (inl e) = inl e
  by_sum (inr e) = inr (ap suc e.0, e.1)

-- A UNIT MAY BEGIN WITH THIS BOOK: a list of steps leads from an opening world to one that has the book, and in which no task has
-- sent anything
abbrev pub MayBegin : {D : Type 0} → Meaning D → Book D → Type 0
MayBegin meaning book = (unit post_room intake_room : ℕ) (back : List (List PostedState)) → ((task : ℕ) → list_of back task ≡ []) →
    IsWorldState meaning (record { unit = unit; part = opening_part book (length back) intake_room; post_room = post_room; back = back })

-- no post is of a unit that there is not
none-of : (unit : ℕ) (vs : List PostedState) → Each (λ v. v.unit < unit) vs → from_unit unit vs ≡ []
none-of unit [] h = refl
none-of unit (v ∷ vs) h =
    let lt : v.unit < unit = h.0 in
    let e : eqb v.unit unit ≡ false = eqb-other v.unit unit (λ q. omega (arith, q, lt)) in
    rw e (none-of unit vs h.1)

none-waits-in : (unit : ℕ) (vs : List PostedState) → list_all (λ v. not (v.unit == unit)) vs ≡ true → from_unit unit vs ≡ []
none-waits-in unit [] h = refl
none-waits-in unit (v ∷ vs) h = elim (cases_Bool (v.unit == unit)) [
  | inl e ↦ let f : false ≡ true = rw e at h in absurd cc
  | inr e ↦ let f : list_all (λ x. not (x.unit == unit)) vs ≡ true = rw e at h in rw e (none-waits-in unit vs f)
]

both-true : (a b : Bool) → (a && b) ≡ true → (a ≡ true) × (b ≡ true)
both-true true true h = (refl, refl)
both-true true false h = absurd cc
both-true false b h = absurd cc

-- no post of the unit is in a row, if none waits
pub none-waits : (unit task : ℕ) (rows : List (List PostedState)) → list_all (list_all (λ v. not (v.unit == unit))) rows ≡ true →
    from_unit unit (list_of rows task) ≡ []
none-waits unit task [] h = refl
none-waits unit zero (r ∷ rows) h = none-waits-in unit r (both-true (list_all (λ v. not (v.unit == unit)) r) _ h).0
none-waits unit (suc task) (r ∷ rows) h = none-waits unit task rows (both-true (list_all (λ v. not (v.unit == unit)) r) _ h).1

module _ {D : Type 0} (meaning : Meaning D) where
  steps-from : (old new : SiteState D) (unit : ℕ) (before after : UnitPart D) {name : StepName} → KeepsOthers meaning old unit new →
      slice_get old.units unit ≡ Some before → slice_get new.units unit ≡ Some after →
      MakesStep meaning name (world_at old unit before) (world_at new unit after) → StepsUnit meaning name old unit new
  steps-from old new unit before after {name} others at now f = record {
    others = others;
    step = λ p q ep eq.
        let e = same-item old.units unit before p at ep in
        let d = same-item new.units unit after q now eq in
        subst (λ x. MakesStep meaning name (world_at old unit x) (world_at new unit q)) e
        (subst (λ x. MakesStep meaning name (world_at old unit before) (world_at new unit x)) d f);
  }

  -- A POST IS DELIVERED: the first that is out at a unit, into the row of its task
  module _ (old : SiteState D) (unit : ℕ) (name : Name) (out : IsFirstOut old unit name)
      (room : length (list_of old.rows name.task) < old.post_room) (site : IsSite meaning old) where
    abbrev pub delivered_part : UnitPart D
    delivered_part = record out.part { book = record out.part.book { out = drop 1 out.part.book.out } }

    abbrev pub delivered_site : SiteState D
    delivered_site = record old { units = set old.units unit delivered_part; rows = with_value old.rows name.task out.value }

    others : KeepsOthers meaning old unit delivered_site
    others = others-stay meaning old unit delivered_part (with_value old.rows name.task out.value)
        (λ other ne. put-other other name.task old.rows out.value (λ e. ne (sym e ∙ out.of_unit)))

    now : slice_get (set old.units unit delivered_part) unit ≡ Some delivered_part
    now = slice_get-set_same old.units unit delivered_part (slice_get_within old.units unit out.part out.at)

    moves : DeliversValue (world_at old unit out.part) out.value name (world_at delivered_site unit delivered_part)
    moves = record {
      first = out.first;
      named = out.named;
      of_task = omega (arith, out.of_task, length-map old.rows (from_unit unit));
      room = omega (arith, room, fewer unit (list_of old.rows name.task), ap length (from-row unit name.task old.rows));
      is = ap (λ back. record (world_at old unit delivered_part) { back = back })
          (put-own unit name.task old.rows out.value out.of_unit);
    }

    step : MakesStep meaning (DeliverStep name) (world_at old unit out.part) (world_at delivered_site unit delivered_part)
    step = delivers meaning (world_at old unit out.part) (world_at delivered_site unit delivered_part) out.value name moves

    pub deliver-steps : StepsUnit meaning (DeliverStep name) old unit delivered_site
    deliver-steps = steps-from old delivered_site unit out.part delivered_part others out.at now step

    pub deliver-keeps : IsSite meaning delivered_site
    deliver-keeps = site-keeps meaning old delivered_site unit site others
        (λ p e. subst (λ x. IsWorldState meaning (world_at delivered_site unit x))
        (same-item (set old.units unit delivered_part) unit delivered_part p now e)
        (state-step meaning (world_at old unit out.part) (world_at delivered_site unit delivered_part) (site.worlds unit out.part out.at)
        (length-map (with_value old.rows name.task out.value) (from_unit unit) ∙ length-set old.rows name.task _
        ∙ sym (length-map old.rows (from_unit unit)) ∙ (site.worlds unit out.part out.at).tasks) step))
        (λ task. subst (λ n. Each (λ v. v.unit < n) (list_of (with_value old.rows name.task out.value) task))
        (sym (length-set old.units unit delivered_part))
        (after-set (λ (v : PostedState). v.unit < length old.units) old.rows name.task
        (list_of old.rows name.task ++ out.value ∷ []) site.of_units
        (λ lt. Each-push (λ (v : PostedState). v.unit < length old.units) (list_of old.rows name.task) out.value
        (site.of_units name.task)
        (subst (λ k. k < length old.units) (sym out.of_unit) (slice_get_within old.units unit out.part out.at))) out.of_task task))

  -- A POST IS COLLECTED: the first of a row
  module _ (old : SiteState D) (task : ℕ) (site : IsSite meaning old) where
    abbrev pub collected_site : SiteState D
    collected_site = record old { rows = without_value old.rows task }

    pub collect-unit : (value : PostedState) → slice_get (list_of old.rows task) 0 ≡ Some value → value.unit < length old.units
    collect-unit value first = Each-first (λ (v : PostedState). v.unit < length old.units) (list_of old.rows task) value
        (site.of_units task) first

    others-collect : (value : PostedState) → slice_get (list_of old.rows task) 0 ≡ Some value →
        KeepsOthers meaning old value.unit collected_site
    others-collect value first = record {
      count = refl;
      same = λ other part ne at. (
        at,
        ap (λ back. record (world_at old other part) { back = back }) (less-other other task old.rows value first (λ e. ne (sym e))),
      );
    }

    collect-step : (value : PostedState) (part : UnitPart D) → slice_get (list_of old.rows task) 0 ≡ Some value →
        MakesStep meaning (CollectStep task value.name) (world_at old value.unit part) (world_at collected_site value.unit part)
    collect-step value part first =
        collects meaning (world_at old value.unit part) (world_at collected_site value.unit part) task value
        (ap (λ l. slice_get l 0) (from-row value.unit task old.rows) ∙ (first-own value.unit (list_of old.rows task) value first refl).0)
        (ap (λ back. record (world_at old value.unit part) { back = back }) (less-own value.unit task old.rows value first refl))

    pub collect-steps : (value : PostedState) → slice_get (list_of old.rows task) 0 ≡ Some value →
        StepsUnit meaning (CollectStep task value.name) old value.unit collected_site
    collect-steps value first =
        let p = slice_get-some old.units value.unit (collect-unit value first) in
        steps-from old collected_site value.unit p.0 p.0 (others-collect value first) p.1 p.1 (collect-step value p.0 first)

    pub collect-none : slice_get (list_of old.rows task) 0 ≡ None → collected_site ≡ old
    collect-none e = ap (λ rows. record old { rows = rows })
        (ap (set old.rows task) (no-rest (list_of old.rows task) e) ∙ set-get_or old.rows task [])

    pub collect-keeps : IsSite meaning collected_site
    collect-keeps = by_first (slice_get (list_of old.rows task) 0) refl where
      by_first : (r : Option PostedState) → slice_get (list_of old.rows task) 0 ≡ r → IsSite meaning collected_site
      by_first None e = subst (IsSite meaning) (sym (collect-none e)) site
      by_first (Some value) e = site-keeps meaning old collected_site value.unit site (others-collect value e)
          (λ part at. state-step meaning (world_at old value.unit part) (world_at collected_site value.unit part)
          (site.worlds value.unit part at)
          (length-map (without_value old.rows task) (from_unit value.unit) ∙ length-set old.rows task _
          ∙ sym (length-map old.rows (from_unit value.unit)) ∙ (site.worlds value.unit part at).tasks) (collect-step value part e))
          (after-set (λ (v : PostedState). v.unit < length old.units) old.rows task (drop 1 (list_of old.rows task)) site.of_units
          (λ lt. Each-rest (λ (v : PostedState). v.unit < length old.units) (list_of old.rows task) (site.of_units task))
          (has-list old.rows task value e))

  -- a book in which DCBs were opened and nothing else happened
  pub opened-begins : (book : Book D) → Legal meaning book.mounted book.trace → list_all is_opening book.trace ≡ true →
      given meaning book ++ book.out ≡ posted meaning book.mounted book.trace → MayBegin meaning book
  opened-begins book legal opened all unit post_room intake back none =
      state-opening meaning (record { unit = unit; part = opening_part book (length back) intake; post_room = post_room; back = back })
      legal opened (opened-out meaning book opened all) refl none (λ task. all-same (length back) task 0)
      (sym (length-replicate (length back) 0))

  -- one more DCB was opened
  pub opened-also : (book after : Book D) (dcb : ℕ) (method : ProcessingMethod) (extents : List Extent) →
      OpensBook meaning book dcb method extents after → MayBegin meaning book → MayBegin meaning after
  opened-also book after dcb method extents opened begins unit post_room intake back none =
      let v : WorldState D = record { unit = unit; part = opening_part book (length back) intake; post_room = post_room; back = back } in
      state-step meaning v (record v { part = opening_part after (length back) intake }) (begins unit post_room intake back none)
      (sym (length-replicate (length back) 0)) (opening meaning v (opening_part after (length back) intake) dcb method extents refl opened)

  -- one was closed
  pub closed-begins : (book after : Book D) (dcb : ℕ) (answer : Closing) → ClosesBook meaning book dcb answer after → MayBegin meaning book →
      MayBegin meaning after
  closed-begins book after dcb answer closes begins unit post_room intake back none =
      let v : WorldState D = record { unit = unit; part = opening_part book (length back) intake; post_room = post_room; back = back } in
      state-step meaning v (record v { part = opening_part after (length back) intake }) (begins unit post_room intake back none)
      (sym (length-replicate (length back) 0)) (calls meaning v (opening_part after (length back) intake) (Control (Close dcb))
      (Controlled (Closed answer)) refl closes)

  -- A SITE WITH NO UNITS YET
  pub empty-site : (tasks room : ℕ) → IsSite meaning (record { units = []; post_room = room; rows = replicate tasks [] })
  empty-site tasks room = record {
    worlds = λ unit part at. absurd cc;
    of_units = λ task. subst (Each (λ (v : PostedState). v.unit < 0)) (sym (all-same tasks task [])) tt;
  }

  -- ONE MORE UNIT
  pub one-more-unit : (old : SiteState D) (book : Book D) (intake : ℕ) → IsSite meaning old → Legal meaning book.mounted book.trace →
      list_all is_opening book.trace ≡ true → given meaning book ++ book.out ≡ posted meaning book.mounted book.trace →
      IsSite meaning (record old { units = old.units ++ opening_part book (length old.rows) intake ∷ [] })
  one-more-unit old book intake site legal opened all =
      let part = opening_part book (length old.rows) intake in
      let new : SiteState D = record old { units = old.units ++ part ∷ [] } in
      record {
        worlds = λ unit p at. elim (at-push old.units part p unit at) [
          | inl e ↦ site.worlds unit p e
          | inr e ↦
              subst (λ x. IsWorldState meaning (world_at new unit x)) (sym e.1)
              (state-opening meaning (world_at new unit part) legal opened (opened-out meaning book opened all) refl
              (λ task. from-row unit task old.rows ∙ none-of unit (list_of old.rows task)
              (subst (λ n. Each (λ v. v.unit < n) (list_of old.rows task)) (sym e.0) (site.of_units task)))
              (λ task. all-same (length old.rows) task 0)
              (length-map old.rows (from_unit unit) ∙ sym (length-replicate (length old.rows) 0)))
        ];
        of_units = λ task. more (list_of old.rows task) (site.of_units task);
      } where
        more : (vs : List PostedState) → Each (λ v. v.unit < length old.units) vs →
            Each (λ v. v.unit < length (old.units ++ opening_part book (length old.rows) intake ∷ [])) vs
        more [] h = tt
        more (v ∷ vs) h = (omega (arith, h.0, length-push old.units (opening_part book (length old.rows) intake)), more vs h.1)
