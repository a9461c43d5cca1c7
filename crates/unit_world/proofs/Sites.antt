-- A site beside the worlds of its units.
use Rattle.std.proofs.Common.{◌≡◌, ◌≢◌, ◌≤◌, ◌<◌, ◌==◌, ℕ, zero, suc, eqb, true, false, Some, List, [], ◌∷◌, ◌++◌, length, map, set, get_or}
use Rattle.std.proofs.Common.{drop, refl, sym, ap, ◌∙◌, subst, inl, inr, arith, append-nil}
use Rattle.std.specs.Prelude.{option_map, slice_get, IfErr, IfOk, OnErr, OnOk}
use Rattle.std.specs.declared.result.Result.{Result}
use Rattle.std.specs.declared.result.Result.TheVariants.{Ok, Err}
use Rattle.std.proofs.lemmas.Bool.{cases_Bool, eqb-true, eq-eqb}
use Rattle.std.proofs.lemmas.List.{get_or_past, get_or-map, length-map, map-set, set-get_or}
use Rattle.std.proofs.lemmas.List.Elements.{filter-append}
use Rattle.std.proofs.lemmas.Option.{slice_get-get_or, slice_get-map, slice_get_within}
use Rattle.std.proofs.lemmas.Result.{on_err_weaker, on_ok_weaker}
use Rattle.std.proofs.Math.ListN.{length-set}
use mathlib.Core.Logic.{dite}
use native.Mathlib.Decide.{dec_lt, ℕ_discrete}
use Rattle.circular_buffer.proofs.Places.{slice_get-set_same, slice_get-set_other}
use Rattle.device_port.specs.Meaning.{Meaning}
use Rattle.request_piece.specs.PostedState.{PostedState}
use Rattle.unit_book.specs.Book.{Book}
use Rattle.unit_book.specs.Lists.{Each}
use Rattle.unit_world.specs.declared.unit_side.UnitSide.{UnitSide}
use Rattle.unit_world.specs.Parts.{UnitPart, unit_part}
use Rattle.unit_world.specs.PostLists.{PostLists, list_of, with_value, without_value}
use Rattle.unit_world.specs.Sites.{SiteState, IsSite, KeepsOthers, OnBook, OnPart, OnUnit, StepsUnit, StepsOfUnit, from_unit}
use Rattle.unit_world.specs.Sites.{world_at}
use Rattle.unit_world.specs.States.{WorldState, IsWorldState, MakesStep, MakesSteps, StepName}
use Rattle.unit_world.proofs.States.{either, state-spare, state-step, state-steps}

-- the same item
pub same-item : {X : Type 0} (xs : List X) (at : ℕ) (x y : X) → slice_get xs at ≡ Some x → slice_get xs at ≡ Some y → x ≡ y
same-item xs at x y h e = let q : Some x ≡ Some y = sym h ∙ e in cc

-- the item that is there already
pub set-same : {X : Type 0} (xs : List X) (at : ℕ) (x : X) → slice_get xs at ≡ Some x → set xs at x ≡ xs
set-same [] at x h = refl
set-same (y ∷ xs) zero x h = let e : y ≡ x = cc in ap (λ z. z ∷ xs) (sym e)
set-same (y ∷ xs) (suc at) x h = ap (λ zs. y ∷ zs) (set-same xs at x h)

-- what follows of what was done, and of why it was not
pub if-ok : {A E : Type 0} (r : Result A E) {P Q : A → Type 0} → ((a : A) → P a → Q a) → IfOk r P → IfOk r Q
if-ok (Ok a) f h = f a h
if-ok (Err e) f h = tt

pub if-err : {A E : Type 0} (r : Result A E) {P Q : E → Type 0} → ((e : E) → P e → Q e) → IfErr r P → IfErr r Q
if-err (Ok a) f h = tt
if-err (Err e) f h = f e h

pub two-done : {A E P Q R : Type 0} (r : Result A E) → (P → Q → R) → OnOk r P → OnOk r Q → OnOk r R
two-done (Ok a) f p q = f p q
two-done (Err e) f p q = tt

pub two-refused : {A E P Q R : Type 0} (r : Result A E) → (P → Q → R) → OnErr r P → OnErr r Q → OnErr r R
two-refused (Ok a) f p q = tt
two-refused (Err e) f p q = f p q

-- the unit at a place, and another in its place
module _ {D : Type 0} (items : List (UnitSide D)) (place : ℕ) (side : UnitSide D) where
  pub side-at : place < length items → side ≡ get_or items place side → slice_get (map unit_part items) place ≡ Some (unit_part side)
  side-at lt is =
      slice_get-map unit_part items place
      ∙ ap (option_map unit_part) (slice_get-get_or items place side lt)
      ∙ ap (λ (u : UnitSide D). Some (unit_part u)) (sym is)

  pub side-put : map unit_part (set items place side) ≡ set (map unit_part items) place (unit_part side)
  side-put = map-set unit_part items place side

-- the posts of a unit in rows
pub from-row : (unit task : ℕ) (rows : List (List PostedState)) →
    list_of (map (from_unit unit) rows) task ≡ from_unit unit (list_of rows task)
from-row unit task rows = dite (dec_lt task (length rows))
    (λ lt. get_or-map (from_unit unit) rows task [] [] lt)
    (λ no.
    let le : length rows ≤ task = omega (arith, no) in
    get_or_past (map (from_unit unit) rows) task [] (omega (arith, le, length-map rows (from_unit unit)))
    ∙ ap (from_unit unit) (sym (get_or_past rows task [] le)))

-- there are no more of them than posts
pub fewer : (unit : ℕ) (vs : List PostedState) → length (from_unit unit vs) ≤ length vs
fewer unit [] = omega arith
fewer unit (v ∷ vs) = elim (cases_Bool (eqb v.unit unit)) [
  | inl e ↦ rw e (omega (arith, fewer unit vs))
  | inr e ↦ rw e (omega (arith, fewer unit vs))
]

pub eqb-other : (i j : ℕ) → (i ≡ j → ⊥) → eqb i j ≡ false
eqb-other i j ne = elim (cases_Bool (eqb i j)) [
  | inl e ↦ absurd (ne (eqb-true i j e))
  | inr e ↦ e
]

-- a post of the unit goes into a row
pub put-own : (unit task : ℕ) (rows : List (List PostedState)) (value : PostedState) → value.unit ≡ unit →
    map (from_unit unit) (with_value rows task value) ≡ with_value (map (from_unit unit) rows) task value
put-own unit task rows value own =
    let one : from_unit unit (value ∷ []) ≡ value ∷ [] = rw (eq-eqb value.unit unit own) refl in
    map-set (from_unit unit) rows task (list_of rows task ++ value ∷ [])
    ∙ ap (set (map (from_unit unit) rows) task)
    (filter-append (λ (v : PostedState). v.unit == unit) (list_of rows task) (value ∷ [])
    ∙ ap (λ l. from_unit unit (list_of rows task) ++ l) one ∙ ap (λ l. l ++ value ∷ []) (sym (from-row unit task rows)))

-- one of another unit
pub put-other : (unit task : ℕ) (rows : List (List PostedState)) (value : PostedState) → (value.unit ≡ unit → ⊥) →
    map (from_unit unit) (with_value rows task value) ≡ map (from_unit unit) rows
put-other unit task rows value other =
    let none : from_unit unit (value ∷ []) ≡ [] = rw (eqb-other value.unit unit other) refl in
    map-set (from_unit unit) rows task (list_of rows task ++ value ∷ [])
    ∙ ap (set (map (from_unit unit) rows) task)
    (filter-append (λ (v : PostedState). v.unit == unit) (list_of rows task) (value ∷ [])
    ∙ ap (λ l. from_unit unit (list_of rows task) ++ l) none ∙ append-nil (from_unit unit (list_of rows task))
    ∙ sym (from-row unit task rows))
    ∙ set-get_or (map (from_unit unit) rows) task []

-- the first post of a row is one of the unit
pub first-own : (unit : ℕ) (vs : List PostedState) (value : PostedState) → slice_get vs 0 ≡ Some value → value.unit ≡ unit →
    (slice_get (from_unit unit vs) 0 ≡ Some value) × (from_unit unit (drop 1 vs) ≡ drop 1 (from_unit unit vs))
first-own unit [] value first own = absurd cc
first-own unit (v ∷ vs) value first own =
    let same : v ≡ value = cc in
    let e : eqb v.unit unit ≡ true = eq-eqb v.unit unit (ap (λ (x : PostedState). x.unit) same ∙ own) in
    rw e (ap Some same, refl)

rest-other : (unit : ℕ) (vs : List PostedState) (value : PostedState) → slice_get vs 0 ≡ Some value → (value.unit ≡ unit → ⊥) →
    from_unit unit (drop 1 vs) ≡ from_unit unit vs
rest-other unit [] value first other = refl
rest-other unit (v ∷ vs) value first other =
    let same : v ≡ value = cc in
    let e : eqb v.unit unit ≡ false = eqb-other v.unit unit (λ q. other (sym (ap (λ (x : PostedState). x.unit) same) ∙ q)) in
    rw e refl

pub less-own : (unit task : ℕ) (rows : List (List PostedState)) (value : PostedState) → slice_get (list_of rows task) 0 ≡ Some value →
    value.unit ≡ unit → map (from_unit unit) (without_value rows task) ≡ without_value (map (from_unit unit) rows) task
less-own unit task rows value first own =
    map-set (from_unit unit) rows task (drop 1 (list_of rows task))
    ∙ ap (set (map (from_unit unit) rows) task)
    ((first-own unit (list_of rows task) value first own).1 ∙ ap (drop 1) (sym (from-row unit task rows)))

pub less-other : (unit task : ℕ) (rows : List (List PostedState)) (value : PostedState) → slice_get (list_of rows task) 0 ≡ Some value →
    (value.unit ≡ unit → ⊥) → map (from_unit unit) (without_value rows task) ≡ map (from_unit unit) rows
less-other unit task rows value first other =
    map-set (from_unit unit) rows task (drop 1 (list_of rows task))
    ∙ ap (set (map (from_unit unit) rows) task) (rest-other unit (list_of rows task) value first other ∙ sym (from-row unit task rows))
    ∙ set-get_or (map (from_unit unit) rows) task []

-- what the contracts see of these fields
abbrev pub view_of : {D : Type 0} → List (UnitSide D) → PostLists → SiteState D
view_of items rows = record { units = map unit_part items; post_room = rows.room; rows = rows.lists }

module _ {D : Type 0} (meaning : Meaning D) where
  -- the other units stay, and so does what is on the way back from them
  pub others-stay : (old : SiteState D) (unit : ℕ) (after : UnitPart D) (rows : List (List PostedState)) →
      ((other : ℕ) → other ≢ unit → map (from_unit other) rows ≡ map (from_unit other) old.rows) →
      KeepsOthers meaning old unit (record old { units = set old.units unit after; rows = rows })
  others-stay old unit after rows same = record {
    count = length-set old.units unit after;
    same = λ other part ne at. (
      slice_get-set_other old.units unit other after ne ∙ at,
      ap (λ back. record (world_at old other part) { back = back }) (same other ne),
    );
  }

  pub others-by-unit : (old : SiteState D) (unit : ℕ) (after : UnitPart D) →
      KeepsOthers meaning old unit (record old { units = set old.units unit after })
  others-by-unit old unit after = others-stay old unit after old.rows (λ other ne. refl)

  -- WHAT KEEPS A SITE
  pub site-keeps : (old new : SiteState D) (unit : ℕ) → IsSite meaning old → KeepsOthers meaning old unit new →
      OnPart new unit (λ part. IsWorldState meaning (world_at new unit part)) →
      ((task : ℕ) → Each (λ v. v.unit < length new.units) (list_of new.rows task)) → IsSite meaning new
  site-keeps old new unit is others here of_units = record {
    worlds = λ other part at. dite (ℕ_discrete other unit)
        (λ e. let p = subst (λ k. slice_get new.units k ≡ Some part) e at in
        subst (λ k. IsWorldState meaning (world_at new k part)) (sym e) (here part p))
        (λ ne.
        let before = get_or old.units other part in
        let within = slice_get_within new.units other part at in
        let p : slice_get old.units other ≡ Some before = slice_get-get_or old.units other part (omega (arith, within, others.count)) in
        let same = others.same other before ne p in
        let e : before ≡ part = same-item new.units other before part same.0 at in
        subst (λ x. IsWorldState meaning (world_at new other x)) e (subst (IsWorldState meaning) (sym same.1) (is.worlds other before p)));
    of_units = of_units;
  }

  -- a unit becomes this, by a step of its world
  pub unit-steps : (old new : SiteState D) (unit : ℕ) {name : StepName} (Does : UnitPart D → UnitPart D → Type 0) →
      OnUnit old unit Does new →
      ((p q : UnitPart D) → Does p q → MakesStep meaning name (world_at old unit p) (world_at old unit q)) →
      StepsUnit meaning name old unit new
  unit-steps old new unit {name} Does h f =
      let at = slice_get-set_same old.units unit h.after (slice_get_within old.units unit h.before h.at) in
      subst (StepsUnit meaning name old unit) (sym h.is) (record {
        others = others-by-unit old unit h.after;
        step = λ p q ep eq.
            let e = same-item old.units unit h.before p h.at ep in
            let d = same-item (set old.units unit h.after) unit h.after q at eq in
            subst (λ x. MakesStep meaning name (world_at old unit x) (world_at old unit q)) e
            (subst (λ x. MakesStep meaning name (world_at old unit h.before) (world_at old unit x)) d (f h.before h.after h.does));
      })

  -- or by a list of steps
  pub unit-settles : (old new : SiteState D) (unit : ℕ) (Does : UnitPart D → UnitPart D → Type 0) → OnUnit old unit Does new →
      ((p q : UnitPart D) → Does p q → MakesSteps meaning (world_at old unit p) (world_at old unit q)) → StepsOfUnit meaning old unit new
  unit-settles old new unit Does h f =
      let at = slice_get-set_same old.units unit h.after (slice_get_within old.units unit h.before h.at) in
      subst (StepsOfUnit meaning old unit) (sym h.is) (record {
        others = others-by-unit old unit h.after;
        steps = λ p q ep eq.
            let e = same-item old.units unit h.before p h.at ep in
            let d = same-item (set old.units unit h.after) unit h.after q at eq in
            subst (λ x. MakesSteps meaning (world_at old unit x) (world_at old unit q)) e
            (subst (λ x. MakesSteps meaning (world_at old unit h.before) (world_at old unit x)) d (f h.before h.after h.does));
      })

  -- and stays such as a list of steps leads to
  pub unit-site : (old : SiteState D) (unit : ℕ) (before after : UnitPart D) → slice_get old.units unit ≡ Some before → IsSite meaning old →
      IsWorldState meaning (world_at old unit after) → IsSite meaning (record old { units = set old.units unit after })
  unit-site old unit before after at is w =
      let new = record old { units = set old.units unit after } in
      let now = slice_get-set_same old.units unit after (slice_get_within old.units unit before at) in
      site-keeps old new unit is (others-by-unit old unit after)
      (λ part p. subst (λ x. IsWorldState meaning (world_at new unit x)) (same-item new.units unit after part now p) w)
      (λ task. subst (λ n. Each (λ v. v.unit < n) (list_of old.rows task)) (sym (length-set old.units unit after)) (is.of_units task))

-- THE UNIT AT A PLACE in the code, and the site as contracts see it
pub record UnitPlace {D : Type 0} (meaning : Meaning D) : Type 0 where
  pub items : List (UnitSide D)
  pub rows : PostLists
  pub place : ℕ
  pub unit : ℕ
  pub side : UnitSide D
  pub old : SiteState D
  pub here : place ≡ unit
  pub within : unit < length old.units
  pub is : side ≡ get_or items place side
  pub view_is : view_of items rows ≡ old
  pub site : IsSite meaning (view_of items rows)

abbrev pub unit-called : {D : Type 0} {meaning : Meaning D} (items : List (UnitSide D)) (rows : PostLists) {place unit : ℕ} {side : UnitSide D}
    {old : SiteState D} → place ≡ unit → unit < length old.units → side ≡ get_or items place side → view_of items rows ≡ old
    → IsSite meaning (view_of items rows) → UnitPlace meaning
unit-called items rows {place} {unit} {side} {old} here within is view_is site = record {
  items = items;
  rows = rows;
  place = place;
  unit = unit;
  side = side;
  old = old;
  here = here;
  within = within;
  is = is;
  view_is = view_is;
  site = site;
}

module _ {D : Type 0} (meaning : Meaning D) (k : UnitPlace meaning) where
  -- the state of its world
  abbrev pub world_before : WorldState D
  world_before = world_at k.old k.unit (unit_part k.side)

  pub site-before : IsSite meaning k.old
  site-before = subst (IsSite meaning) k.view_is k.site

  pub part-at : slice_get k.old.units k.unit ≡ Some (unit_part k.side)
  part-at =
      let within : k.place < length k.items =
      omega (arith, k.within, ap (λ (s : SiteState D). length s.units) k.view_is, length-map k.items unit_part, k.here) in
      subst (λ (s : SiteState D). slice_get s.units k.unit ≡ Some (unit_part k.side)) k.view_is
      (subst (λ u. slice_get (map unit_part k.items) u ≡ Some (unit_part k.side)) k.here (side-at k.items k.place k.side within k.is))

  pub world-before : IsWorldState meaning world_before
  world-before = site-before.worlds k.unit (unit_part k.side) part-at

  -- what holds of the unit
  pub on-old : (P : UnitPart D → Type 0) → P (unit_part k.side) → OnPart k.old k.unit P
  on-old P h p e = subst P (same-item k.old.units k.unit (unit_part k.side) p part-at e) h

  -- THE UNIT BECOMES ANOTHER
  module _ (after : UnitSide D) where
    abbrev pub site_after : SiteState D
    site_after = view_of (set k.items k.place after) k.rows

    pub put-side : site_after ≡ record k.old { units = set k.old.units k.unit (unit_part after) }
    put-side =
        ap (λ us. record (view_of k.items k.rows) { units = us })
        (side-put k.items k.place after ∙ ap (λ u. set (map unit_part k.items) u (unit_part after)) k.here)
        ∙ ap (λ (s : SiteState D). record s { units = set s.units k.unit (unit_part after) }) k.view_is

    pub does : (Does : UnitPart D → UnitPart D → Type 0) → Does (unit_part k.side) (unit_part after) → OnUnit k.old k.unit Does site_after
    does Does h = record { before = unit_part k.side; after = unit_part after; at = part-at; does = h; is = put-side }

    pub on-new : (P : UnitPart D → Type 0) → P (unit_part after) → OnPart site_after k.unit P
    on-new P h p e =
        let now = slice_get-set_same k.old.units k.unit (unit_part after) k.within in
        let at = subst (λ (s : SiteState D). slice_get s.units k.unit ≡ Some p) put-side e in
        subst P (same-item (set k.old.units k.unit (unit_part after)) k.unit (unit_part after) p now at) h

    -- if nothing changes
    pub stays : after ≡ k.side → site_after ≡ k.old
    stays same =
        put-side
        ∙ ap (λ x. record k.old { units = set k.old.units k.unit (unit_part x) }) same
        ∙ ap (λ us. record k.old { units = us }) (set-same k.old.units k.unit (unit_part k.side) part-at)

    pub keeps-same : after ≡ k.side → IsSite meaning site_after
    keeps-same same = subst (IsSite meaning) (sym (stays same)) site-before

    -- if the unit stays such as a list of steps leads to
    pub keeps : IsWorldState meaning (record world_before { part = unit_part after }) → IsSite meaning site_after
    keeps w = subst (IsSite meaning) (sym put-side)
        (unit-site meaning k.old k.unit (unit_part k.side) (unit_part after) part-at site-before w)

-- the unit with another book
abbrev pub side_with : {D : Type 0} → UnitSide D → Book D → UnitSide D
side_with side book = record side { book = book }

-- A CALL OF THE BOOK of the unit
module _ {D : Type 0} (meaning : Meaning D) (k : UnitPlace meaning) (book : Book D) where
  abbrev pub book_after : SiteState D
  book_after = site_after meaning k (side_with k.side book)

  abbrev pub part_after : UnitPart D
  part_after = unit_part (side_with k.side book)

  pub book-does : (Does : Book D → Book D → Type 0) → Does k.side.book book → OnBook k.old k.unit Does book_after
  book-does Does h = does meaning k (side_with k.side book) (λ p q. Does p.book q.book × (q ≡ record p { book = q.book })) (h, refl)

  book-same : book ≡ k.side.book → side_with k.side book ≡ k.side
  book-same same = ap (side_with k.side) same

  keeps-by : {name : StepName} → MakesStep meaning name (world_before meaning k) (record (world_before meaning k) { part = part_after }) →
      IsSite meaning book_after
  keeps-by f = keeps meaning k (side_with k.side book)
      (state-step meaning (world_before meaning k) (record (world_before meaning k) { part = part_after }) (world-before meaning k)
      (world-before meaning k).tasks f)

  pub book-settles : MakesSteps meaning (world_before meaning k) (record (world_before meaning k) { part = part_after }) →
      IsSite meaning book_after
  book-settles f = keeps meaning k (side_with k.side book)
      (state-steps meaning (world_before meaning k) (record (world_before meaning k) { part = part_after }) (world-before meaning k)
      (world-before meaning k).tasks f)

  module _ {A E : Type 0} (r : Result A E) where
    pub book-ok : (Does : A → Book D → Book D → Type 0) → IfOk r (λ a. Does a k.side.book book) →
        IfOk r (λ a. OnBook k.old k.unit (Does a) book_after)
    book-ok Does done = if-ok r (λ a. book-does (Does a)) done

    -- it may do this to the book and be refused
    pub book-refused : (Does : Book D → Book D → Type 0) → OnErr r (Does k.side.book book) → OnErr r (OnBook k.old k.unit Does book_after)
    book-refused Does done = on_err_weaker r (book-does Does) done

    pub book-given : (P : E → Book D → Type 0) → IfErr r (λ e. P e k.side.book) → IfErr r (λ e. OnPart k.old k.unit (λ p. P e p.book))
    book-given P h = if-err r (λ e. on-old meaning k (λ p. P e p.book)) h

    pub book-now : (P : Book D → Type 0) → OnOk r (P book) → OnOk r (OnPart book_after k.unit (λ p. P p.book))
    book-now P h = on_ok_weaker r (on-new meaning k (side_with k.side book) (λ p. P p.book)) h

    pub book-now-err : (P : Book D → Type 0) → OnErr r (P book) → OnErr r (OnPart book_after k.unit (λ p. P p.book))
    book-now-err P h = on_err_weaker r (on-new meaning k (side_with k.side book) (λ p. P p.book)) h

    pub book-err : OnErr r (book ≡ k.side.book) → OnErr r (book_after ≡ k.old)
    book-err refused = on_err_weaker r (λ same. stays meaning k (side_with k.side book) (book-same same)) refused

    pub book-keeps : {Done : A → Type 0} {name : A → StepName} → IfOk r Done → OnErr r (book ≡ k.side.book) →
        ((a : A) → Done a → MakesStep meaning (name a) (world_before meaning k) (record (world_before meaning k) { part = part_after })) →
        IsSite meaning book_after
    book-keeps done refused f = either r done refused (λ a h. keeps-by (f a h))
        (λ same. keeps-same meaning k (side_with k.side book) (book-same same))

    -- where only the room for entries may have grown if it is refused
    pub book-grows : {Done : A → Type 0} {name : A → StepName} → IfOk r Done → OnErr r (book ≡ record k.side.book { spare = book.spare }) →
        ((a : A) → Done a → MakesStep meaning (name a) (world_before meaning k) (record (world_before meaning k) { part = part_after })) →
        IsSite meaning book_after
    book-grows done refused f = either r done refused (λ a h. keeps-by (f a h))
        (λ same. keeps meaning k (side_with k.side book) (state-spare meaning (world_before meaning k) book (world-before meaning k) same))
