-- What the table of DCBs tells, over one entry more, and what it means.
use Rattle.std.proofs.Common.{◌≡◌, ◌≤◌, ◌<◌, ℕ, ◌+◌, Bool, true, false, not, ◌&&◌, if◌then◌else◌, eqb, Option, Some, None, List, [], ◌∷◌, ◌++◌}
use Rattle.std.proofs.Common.{length, refl, ap, sym, ◌∙◌, subst, arith, inl, inr}
use Rattle.std.proofs.Common.{get_or, length-append, reverse, take}
use Rattle.std.proofs.lemmas.List.{reverse-append, take_more}
use Rattle.std.proofs.lemmas.List.Elements.{All-push, All-weaker, filter-append}
use Rattle.std.specs.List.{All, filter}
use Rattle.unit_book.specs.Book.{Book}
use Rattle.unit_book.specs.Trace.{is_opening}
use Rattle.std.specs.declared.alloc.AllocError.{AllocError}
use Rattle.std.specs.Prelude.{IfOk, Result, Ok, Err, is_some, option_and_then, option_map, slice_get, slice_set}
use Rattle.std.proofs.lemmas.Bool.{and_parts, cases_Bool, eqb-true}
use Rattle.std.proofs.lemmas.Bool.Decides.{nat_tests}
use Rattle.std.proofs.lemmas.Grind.{common_steps}
use Rattle.circular_buffer.proofs.Places.{slice_get-set_same, slice_get-set_other}
use Rattle.io_images.specs.Codes.{is_error}
use Rattle.io_images.specs.declared.code.Code.{Code}
use Rattle.io_images.specs.declared.csw.Csw.{Csw}
use Rattle.io_images.specs.declared.extent.Extent.{Extent}
use Rattle.request_piece.specs.declared.piece.Name.{Name}
use Rattle.unit_book.specs.Dcbs.{is_closed, is_open, is_opened, opened_count}
unfoldable use Rattle.unit_book.specs.Dcbs.{flag}
use Rattle.unit_book.specs.Trace.{request_named}
use Rattle.unit_book.specs.declared.dcb.ProcessingMethod.{ProcessingMethod}
use Rattle.unit_book.specs.declared.entry.Entry.{Entry}
use Rattle.unit_book.specs.declared.entry.Entry.TheVariants.{Opened, Arrive, Start, Ran, Halted, Purge, Close, Reset, Post}
use Rattle.unit_book.proofs.Lists.{no_both}
unfoldable use Rattle.unit_history.specs.Causes.{closed_by, flagged_by}
use Rattle.unit_history.specs.Dcbs.{ChangesDcb, KnowsDcbs, NotesError, OpensDcb, TellsDcbs, closed_at, flagged_at, known_at, opened_dcb, dcb_place, room_of}
unfoldable use Rattle.unit_history.specs.Dcbs.{known_of}
use Rattle.unit_history.specs.Events.{entries_so_far}
use Rattle.unit_history.specs.Orderly.{ErrorFollows, OpenFollows}
unfoldable use Rattle.unit_history.specs.Orderly.{Orderly}
use Rattle.unit_history.specs.declared.dcbs.DcbEntries.{DcbEntries}
use Rattle.unit_history.specs.declared.dcbs.Dcbs.{Dcbs}

-- the next place
place-next : (o d room : ℕ) → o < room → eqb (o + 1) d ≡ true → dcb_place d room (o + 1) ≡ Some o
place-next o d room h e = grind (arith, common_steps, nat_tests)

place-other : (o d room : ℕ) → eqb (o + 1) d ≡ false → dcb_place d room (o + 1) ≡ dcb_place d room o
place-other o d room e = grind (arith, common_steps, nat_tests)

place-below : (o d room k : ℕ) → dcb_place d room o ≡ Some k → k < o
place-below o d room k e = grind (arith, common_steps, nat_tests)

pub opens-next : (xs : List DcbEntries) (room o d : ℕ) → room ≡ length xs → o < room →
    option_and_then (slice_get (slice_set xs o opened_dcb)) (dcb_place d room (o + 1))
    ≡ (if eqb (o + 1) d then Some opened_dcb else option_and_then (slice_get xs) (dcb_place d room o))
opens-next xs room o d n h =
    elim (cases_Bool (eqb (o + 1) d)) [
      | inl e ↦ rw (e, place-next o d room h e) (slice_get-set_same xs o opened_dcb (omega (arith, n)))
      | inr e ↦ rw (e, place-other o d room e) (by_place (dcb_place d room o) refl)
    ] where
      by_place : (p : Option ℕ) → dcb_place d room o ≡ p →
          option_and_then (slice_get (slice_set xs o opened_dcb)) p ≡ option_and_then (slice_get xs) p
      by_place None e = refl
      by_place (Some k) e = slice_get-set_other xs o k opened_dcb (λ i. omega (arith, i, place-below o d room k e))

-- an entry closed what was closed
pub closed-by : (d : ℕ) (H : List Entry) → is_closed d H ≡ is_some (closed_by d H)
unfolding closed_by
closed-by d [] = refl
closed-by d (Close c ∷ H) = grind (arith, common_steps, closed-by d H)
closed-by d (_ ∷ H) = closed-by d H

-- what is known of a DCB is so
abbrev pub IsKnown : ℕ → List Entry → Option DcbEntries → Type 0
IsKnown d H None = (is_opened d H ≡ false) × (closed_by d H ≡ None) × (flag d H ≡ false)
IsKnown d H (Some k) = (is_opened d H ≡ true) × (closed_by d H ≡ k.closed) × (flag d H ≡ true → flagged_by d H ≡ k.flagged)

module _ (d : ℕ) (H : List Entry) where
  -- a DCB that was not opened before
  fresh-known : (o : Option DcbEntries) → is_opened d H ≡ false → IsKnown d H o → (closed_by d H ≡ None) × (flag d H ≡ false)
  fresh-known None n k = (k.1, k.2)
  fresh-known (Some x) n k = no_both (is_opened d H) k.0 n

  opened-other : (c : ℕ) (m : ProcessingMethod) (x : List Extent) (o : Option DcbEntries) → eqb c d ≡ false → IsKnown d H o →
      IsKnown d (Opened c m x ∷ H) o
  unfolding closed_by flag flagged_by
  opened-other c m x None e k = (rw e k.0, k.1, k.2)
  opened-other c m x (Some y) e k = (rw e k.0, k.1, k.2)

  known-opened : (c : ℕ) (m : ProcessingMethod) (x : List Extent) (o : Option DcbEntries) → OpenFollows c (Opened c m x) H → IsKnown d H o →
      IsKnown d (Opened c m x ∷ H) (if eqb c d then Some opened_dcb else o)
  unfolding closed_by flag flagged_by
  known-opened c m x o f k =
      elim (cases_Bool (eqb c d)) [
        | inl e ↦
            let n : is_opened d H ≡ false = subst (λ (y : ℕ). is_opened y H ≡ false) (eqb-true c d e) f.new in
            let w = fresh-known o n k in
            subst (λ (b : Bool). IsKnown d (Opened c m x ∷ H) (if b then Some opened_dcb else o)) (sym e)
            (rw e refl, w.0, λ g. no_both (flag d H) g w.1)
        | inr e ↦ subst (λ (b : Bool). IsKnown d (Opened c m x ∷ H) (if b then Some opened_dcb else o)) (sym e) (opened-other c m x o e k)
      ]

  closed-self : (c : ℕ) (o : Option DcbEntries) → is_open d H ≡ true → eqb c d ≡ true → IsKnown d H o →
      IsKnown d (Close c ∷ H) (option_map (closed_at (length H + 1)) o)
  unfolding closed_by flag flagged_by
  closed-self c None f e k = no_both (is_opened d H) (and_parts (is_opened d H) (not (is_closed d H)) f).0 k.0
  closed-self c (Some y) f e k = (k.0, rw e refl, k.2)

  closed-other : (c : ℕ) (o : Option DcbEntries) → eqb c d ≡ false → IsKnown d H o → IsKnown d (Close c ∷ H) o
  unfolding closed_by flag flagged_by
  closed-other c None e k = (k.0, rw e k.1, k.2)
  closed-other c (Some y) e k = (k.0, rw e k.1, k.2)

  known-closed : (c : ℕ) (o : Option DcbEntries) → is_open c H ≡ true → IsKnown d H o →
      IsKnown d (Close c ∷ H) (if eqb c d then option_map (closed_at (length H + 1)) o else o)
  known-closed c o f k =
      elim (cases_Bool (eqb c d)) [
        | inl e ↦
            let g : is_open d H ≡ true = subst (λ (y : ℕ). is_open y H ≡ true) (eqb-true c d e) f in
            subst (λ (b : Bool). IsKnown d (Close c ∷ H) (if b then option_map (closed_at (length H + 1)) o else o)) (sym e)
            (closed-self c o g e k)
        | inr e ↦
            subst (λ (b : Bool). IsKnown d (Close c ∷ H) (if b then option_map (closed_at (length H + 1)) o else o)) (sym e)
            (closed-other c o e k)
      ]

  known-reset : (c : ℕ) (o : Option DcbEntries) → IsKnown d H o → IsKnown d (Reset c ∷ H) o
  unfolding closed_by flag flagged_by
  known-reset c None k = grind (arith, common_steps)
  known-reset c (Some x) k = grind (arith, common_steps)

  module _ (n : Name) (csw : Csw) (sense : ℕ) (code : Code) where
    abbrev sets : Bool
    sets = is_error code && (request_named n H).related && eqb (request_named n H).dcb d

    posted-self : (o : Option DcbEntries) → is_opened d H ≡ true → sets ≡ true → IsKnown d H o →
        IsKnown d (Post n csw sense code ∷ H) (option_map (flagged_at (length H + 1)) o)
    unfolding closed_by flag flagged_by
    posted-self None f e k = no_both (is_opened d H) f k.0
    posted-self (Some y) f e k = (k.0, k.1, λ g. rw e refl)

    posted-other : (o : Option DcbEntries) → sets ≡ false → IsKnown d H o → IsKnown d (Post n csw sense code ∷ H) o
    unfolding closed_by flag flagged_by
    posted-other None e k = (k.0, k.1, rw e k.2)
    posted-other (Some y) e k = (k.0, k.1, λ g. rw e (k.2 (rw e at g)))

    known-posted : (o : Option DcbEntries) → (is_error code ≡ true → ErrorFollows n H) → IsKnown d H o →
        IsKnown d (Post n csw sense code ∷ H) (if sets then option_map (flagged_at (length H + 1)) o else o)
    known-posted o f k =
        elim (cases_Bool sets) [
          | inl e ↦
              let a = and_parts (is_error code && (request_named n H).related) (eqb (request_named n H).dcb d) e in
              let b = and_parts (is_error code) (request_named n H).related a.0 in
              let g : is_opened d H ≡ true = subst (λ (y : ℕ). is_opened y H ≡ true) (eqb-true (request_named n H).dcb d a.1) ((f b.0).opened b.1) in
              subst (λ (b : Bool). IsKnown d (Post n csw sense code ∷ H) (if b then option_map (flagged_at (length H + 1)) o else o)) (sym e)
              (posted-self o g e k)
          | inr e ↦
              subst (λ (b : Bool). IsKnown d (Post n csw sense code ∷ H) (if b then option_map (flagged_at (length H + 1)) o else o)) (sym e)
              (posted-other o e k)
        ]

-- WHAT THE ENTRIES TELL of a DCB is so
pub known-is : (d : ℕ) (H : List Entry) → Orderly H → IsKnown d H (known_of d H)
unfolding Orderly known_of closed_by flag flagged_by
known-is d [] o = (refl, refl, refl)
known-is d (Opened c m x ∷ H) o = known-opened d H c m x (known_of d H) o.0 (known-is d H o.1)
known-is d (Arrive r ∷ H) o = known-is d H o.1
known-is d (Start n ∷ H) o = known-is d H o.1
known-is d (Ran n j ∷ H) o = known-is d H o.1
known-is d (Halted n ∷ H) o = known-is d H o.1
known-is d (Purge s m ∷ H) o = known-is d H o.1
known-is d (Close c ∷ H) o = known-closed d H c (known_of d H) o.0.1 (known-is d H o.1)
known-is d (Reset c ∷ H) o = known-reset d H c (known_of d H) (known-is d H o.1)
known-is d (Post n csw sense code ∷ H) o = known-posted d H n csw sense code (known_of d H) o.0.1 (known-is d H o.1)

pub knows-known : (d : ℕ) (H : List Entry) (table : Dcbs) → Orderly H → TellsDcbs H table → IsKnown d H (known_at d table)
knows-known d H table o t = subst (IsKnown d H) (sym (t.dcbs d)) (known-is d H o)

-- ONE ENTRY MORE
pub knows-opened : (c : ℕ) (m : ProcessingMethod) (x : List Extent) (H : List Entry) (old new : Dcbs) → OpenFollows c (Opened c m x) H →
    KnowsDcbs H old → OpensDcb old new → KnowsDcbs (Opened c m x ∷ H) new
unfolding known_of
knows-opened c m x H old new f k s few =
    let t = k (omega (arith, s.room)) in
    let below : old.opened < room_of old = omega (arith, t.opened, s.room) in
    let next : old.opened + 1 ≡ c = omega (arith, t.opened, f.next) in
    record {
      opened = omega (arith, s.opened below, t.opened);
      dcbs = λ d. s.dcbs below d ∙ ap (λ (y : ℕ). if eqb y d then Some opened_dcb else known_at d old) next
          ∙ ap (λ (y : Option DcbEntries). if eqb c d then Some opened_dcb else y) (t.dcbs d);
    }

pub knows-closed : (c : ℕ) (H : List Entry) (k : ℕ) (old new : Dcbs) → k ≡ length H + 1 → KnowsDcbs H old → ChangesDcb old new c (closed_at k) →
    KnowsDcbs (Close c ∷ H) new
unfolding known_of
knows-closed c H k old new n w s few =
    let t = w (omega (arith, s.room)) in
    record {
      opened = s.opened ∙ t.opened;
      dcbs = λ d. s.dcbs d ∙ ap (λ (y : ℕ). if eqb c d then option_map (closed_at y) (known_at d old) else known_at d old) n
          ∙ ap (λ (y : Option DcbEntries). if eqb c d then option_map (closed_at (length H + 1)) y else y) (t.dcbs d);
    }

knows-error : (n : Name) (csw : Csw) (sense : ℕ) (code : Code) (H : List Entry) (k : ℕ) (old new : Dcbs) → k ≡ length H + 1 →
    is_error code ≡ true → (b : Bool) → (request_named n H).related ≡ b → KnowsDcbs H old → NotesError (request_named n H) k old new →
    KnowsDcbs (Post n csw sense code ∷ H) new
unfolding known_of
knows-error n csw sense code H k old new e i true r w s few =
    let c = (request_named n H).dcb in
    let s' : ChangesDcb old new c (flagged_at k) = rw r at s in
    let t = w (omega (arith, s'.room)) in
    record {
      opened = s'.opened ∙ t.opened;
      dcbs = λ d. rw (i, r) (s'.dcbs d ∙ ap (λ (y : ℕ). if eqb c d then option_map (flagged_at y) (known_at d old) else known_at d old) e
          ∙ ap (λ (y : Option DcbEntries). if eqb c d then option_map (flagged_at (length H + 1)) y else y) (t.dcbs d));
    }
knows-error n csw sense code H k old new e i false r w s few =
    let s' : new ≡ old = rw r at s in
    let t = w (subst (λ (x : Dcbs). opened_count H ≤ room_of x) s' few) in
    record {
      opened = ap (λ (x : Dcbs). x.opened) s' ∙ t.opened;
      dcbs = λ d. rw (i, r) (ap (known_at d) s' ∙ t.dcbs d);
    }

pub knows-posted : (n : Name) (csw : Csw) (sense : ℕ) (code : Code) (H : List Entry) (k : ℕ) (old new : Dcbs) → k ≡ length H + 1 →
    (is_error code ≡ true → NotesError (request_named n H) k old new) → (is_error code ≡ false → new ≡ old) → KnowsDcbs H old →
    KnowsDcbs (Post n csw sense code ∷ H) new
unfolding known_of
knows-posted n csw sense code H k old new e error other w =
    elim (cases_Bool (is_error code)) [
      | inl i ↦ knows-error n csw sense code H k old new e i (request_named n H).related refl w (error i)
      | inr i ↦ λ few.
          let t = w (subst (λ (x : Dcbs). opened_count H ≤ room_of x) (other i) few) in
          record {
            opened = ap (λ (x : Dcbs). x.opened) (other i) ∙ t.opened;
            dcbs = λ d. rw i (ap (known_at d) (other i) ∙ t.dcbs d);
          }
    ]

-- the others tell nothing of DCBs
abbrev pub TellsNone : Entry → Type 0
TellsNone (Opened d m x) = ⊥
TellsNone (Close d) = ⊥
TellsNone (Post n csw sense code) = ⊥
TellsNone _ = Unit {0}

pub tells-none : (e : Entry) → ((d : ℕ) (m : ProcessingMethod) (x : List Extent) → e ≡ Opened d m x → ⊥) → ((d : ℕ) → e ≡ Close d → ⊥) →
    ((n : Name) (csw : Csw) (sense : ℕ) (code : Code) → e ≡ Post n csw sense code → ⊥) → TellsNone e
tells-none (Opened d m x) o k q = absurd (o d m x refl)
tells-none (Arrive r) o k q = tt
tells-none (Start n) o k q = tt
tells-none (Ran n j) o k q = tt
tells-none (Halted n) o k q = tt
tells-none (Purge s m) o k q = tt
tells-none (Close d) o k q = absurd (k d refl)
tells-none (Reset d) o k q = tt
tells-none (Post n csw sense code) o k q = absurd (q n csw sense code refl)

pub knows-other : (e : Entry) (H : List Entry) (table : Dcbs) → TellsNone e → KnowsDcbs H table → KnowsDcbs (e ∷ H) table
unfolding known_of
knows-other (Opened d m x) H table n w few = absurd n
knows-other (Arrive r) H table n w few = let t = w few in record { opened = t.opened; dcbs = t.dcbs }
knows-other (Start m) H table n w few = let t = w few in record { opened = t.opened; dcbs = t.dcbs }
knows-other (Ran m j) H table n w few = let t = w few in record { opened = t.opened; dcbs = t.dcbs }
knows-other (Halted m) H table n w few = let t = w few in record { opened = t.opened; dcbs = t.dcbs }
knows-other (Purge s m) H table n w few = let t = w few in record { opened = t.opened; dcbs = t.dcbs }
knows-other (Close d) H table n w few = absurd n
knows-other (Reset d) H table n w few = let t = w few in record { opened = t.opened; dcbs = t.dcbs }
knows-other (Post m csw sense code) H table n w few = absurd n

-- no DCB was opened before the first entry
knows-none : (table : Dcbs) → table.opened ≡ 0 → KnowsDcbs [] table
unfolding known_of
knows-none table n few = record { opened = n; dcbs = λ d. rw n (grind (arith, common_steps)) }

pub knows-before : (es : List Entry) (table : Dcbs) → table.opened ≡ 0 → KnowsDcbs (entries_so_far es 0) table
knows-before [] table n = knows-none table n
knows-before (e ∷ es) table n = knows-none table n

-- how many DCBs entries open, in either order
pub opened-reverse : (es : List Entry) → opened_count (reverse es) ≡ length (filter is_opening es)
opened-reverse [] = refl
opened-reverse (e ∷ es) =
    ap (λ (xs : List Entry). length (filter is_opening xs)) (reverse-append (e ∷ []) es)
    ∙ ap length (filter-append is_opening (reverse es) (e ∷ []))
    ∙ length-append (filter is_opening (reverse es)) (filter is_opening (e ∷ []))
    ∙ ap (λ (n : ℕ). n + length (filter is_opening (e ∷ []))) (opened-reverse es)
    ∙ last (is_opening e) refl where
      last : (b : Bool) → is_opening e ≡ b →
          length (filter is_opening es) + length (filter is_opening (e ∷ [])) ≡ length (filter is_opening (e ∷ es))
      last true h = rw h (omega arith)
      last false h = rw h (omega arith)

-- a table has room for the units before, and for one more
pub rooms-more : {D : Type 0} (books : List (Book D)) (i : ℕ) (book : Book D) (trace : List Entry) (most count new : ℕ) → i < length books →
    book ≡ get_or books i book → reverse trace ≡ book.trace → count ≡ length (filter is_opening trace) → most ≤ new → count ≤ new →
    All (λ b. opened_count b.trace ≤ most) (take i books) → All (λ b. opened_count b.trace ≤ new) (take (i + 1) books)
rooms-more {D} books i book trace most count new below is t n m k all =
    let b : get_or books i book ≡ book = sym is in
    let c : opened_count book.trace ≡ count = ap opened_count (sym t) ∙ opened-reverse trace ∙ sym n in
    let more : take (i + 1) books ≡ take i books ++ book ∷ [] = take_more books i book below ∙ ap (λ (x : Book D). take i books ++ x ∷ []) b in
    rw more (All-push (λ (b : Book D). opened_count b.trace ≤ new) (take i books) book
    (All-weaker (λ (b : Book D). opened_count b.trace ≤ most) (λ (b : Book D). opened_count b.trace ≤ new) (λ x h. omega (arith, h, m)) (take i books) all)
    (omega (arith, c, k)))

-- a table that is made for the most
pub rooms-made : {D : Type 0} (books : List (Book D)) (most : ℕ) (made : Result Dcbs AllocError) → IfOk made (λ table. room_of table ≡ most) →
    All (λ b. opened_count b.trace ≤ most) books → IfOk made (λ table. All (λ b. opened_count b.trace ≤ room_of table) books)
rooms-made {D} books most (Ok table) n all =
    All-weaker (λ (b : Book D). opened_count b.trace ≤ most) (λ (b : Book D). opened_count b.trace ≤ room_of table) (λ x h. omega (arith, h, n)) books all
rooms-made books most (Err e) n all = tt
