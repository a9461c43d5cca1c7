-- A DCB is opened: the fields stay those of the trace.
use Rattle.unit_book.proofs.Names.{BookFields, ◌≡◌, ℕ, ◌+◌, ◌-◌, ◌≤◌, true, false, not, ◌&&◌, ◌||◌, Option, Some, None, List, [], ◌∷◌, ◌++◌}
use Rattle.unit_book.proofs.Names.{length, length-append, refl, sym, ap, arith, eqb, inl, inr, subst, if◌then◌else◌, cases_Bool, and_parts}
use Rattle.unit_book.proofs.Names.{or_right, eqb-true, eq-eqb, slice_get-append_right, slice_get, is_error, Status, Code, Extent, Meaning}
use Rattle.unit_book.proofs.Names.{Idle, Name, Piece, Active, Dcb, Entry, Opened, Arrive, Start, Close, Reset, Post, same, has_started}
use Rattle.unit_book.proofs.Names.{waiting, arrivals, active, started, request_named, is_open, is_opened, is_closed, opened_count}
use Rattle.unit_book.proofs.Names.{extents_of, flag, attempts, stand, Due, Free, due, FitsBy, Legal, StartFits, First, Again, PostFits}
use Rattle.unit_book.proofs.Names.{OfActive, OfFirst, posted, Ties, dcb_at, dcb_of, ProcessingMethod, Input, Output}
use Rattle.unit_book.specs.Trace.{opens, is_input}
use Rattle.unit_book.specs.Legal.{OpenFits}
use Rattle.unit_book.specs.Fields.{HasRow, fields_of}
use Rattle.unit_book.proofs.Lists.{same-true, not-so, at-push}
use Rattle.unit_book.proofs.Facts.{fits-freely, fresh, new-name, active-is}
use Rattle.unit_book.proofs.LegalFacts.{SoundTrace, facts, first-request}
use Rattle.unit_book.proofs.Dooms.{due-doomed}
use Rattle.unit_book.proofs.Same.{activity-same, fits-free}
use Rattle.unit_book.proofs.Seeks.{waits-open}
use Rattle.unit_book.proofs.Starts.{no-input}
use Rattle.std.proofs.lemmas.Grind.{common_steps}

more : (d : ℕ) (H : List Entry) (e : Entry) → is_opened d H ≡ true → is_opened d (e ∷ H) ≡ true
more d H e h = or_right (opens d e) (is_opened d H) h

-- what it says of the others stays
dcb-other : (c d : ℕ) (method : ProcessingMethod) (x : List Extent) (H : List Entry) → eqb d c ≡ false →
    dcb_of c (Opened d method x ∷ H) ≡ dcb_of c H
unfolding extents_of flag
dcb-other c d method x H e = rw e refl

module _ {D : Type 0} (meaning : Meaning D) (mounted : D) where
  -- a DCB that was opened has a number from 1 to the count
  pub opened-few : (d : ℕ) (H : List Entry) → Legal meaning mounted H → is_opened d H ≡ true → (1 ≤ d) × (d ≤ opened_count H)
  unfolding Legal
  opened-few d [] l h = absurd cc
  opened-few d (Opened c i x ∷ H) l h = grind (arith, common_steps, opened-few d H l.1)
  opened-few d (_ ∷ H) l h = opened-few d H l.1 h

  -- a DCB that was closed was opened
  pub closed-opened : (d : ℕ) (H : List Entry) → Legal meaning mounted H → is_closed d H ≡ true → is_opened d H ≡ true
  unfolding Legal
  closed-opened d [] l h = absurd cc
  closed-opened d (Opened c i x ∷ H) l h = more d H (Opened c i x) (closed-opened d H l.1 h)
  closed-opened d (Close c ∷ H) l h = grind (arith, common_steps, closed-opened d H l.1)
  closed-opened d (_ ∷ H) l h = closed-opened d H l.1 h

  -- the DCB of what waits first, where nothing is due
  pub first-opened : (r : Piece) (H : List Entry) → due meaning mounted H ≡ Free → slice_get (waiting H) 0 ≡ Some r →
      is_opened r.dcb H ≡ true
  first-opened r H d s = (and_parts (is_opened r.dcb H) (not (is_closed r.dcb H)) (waits-open r H (due-doomed meaning mounted H d) s)).0

  -- the table of DCBs has the row of an opened one
  pub opened-row : (d : ℕ) {held : BookFields D} {o : Option Active} → Ties meaning mounted held o → is_opened d held.trace ≡ true →
      HasRow held.dcbs d
  opened-row d {held} t h = let few = opened-few d held.trace t.legal h in let count = t.count in (few.0, rw count few.1)

  pub open-row : (d : ℕ) {held : BookFields D} {o : Option Active} → Ties meaning mounted held o → is_open d held.trace ≡ true →
      HasRow held.dcbs d
  open-row d {held} t h = opened-row d t (and_parts (is_opened d held.trace) (not (is_closed d held.trace)) h).0

  start-opened : {n : Name} {H : List Entry} → StartFits meaning mounted n H → SoundTrace meaning mounted H →
      (has_started n H ≡ true → is_opened (request_named n H).dcb H ≡ true) → is_opened (request_named n H).dcb H ≡ true
  start-opened {H = H} (First s) sound ih = grind (arith, common_steps, first-request, facts, first-opened)
  start-opened {n} {H} (Again s) sound ih = ih (active-is n H s.active).0

  -- THE DCB of a request that was started was opened
  pub started-opened : (n : Name) (H : List Entry) → Legal meaning mounted H → has_started n H ≡ true →
      is_opened (request_named n H).dcb H ≡ true
  unfolding Legal request_named
  started-opened n [] l h = absurd cc
  started-opened n (Opened d i x ∷ H) l h = more (request_named n H).dcb H (Opened d i x) (started-opened n H l.1 h)
  started-opened n (Arrive r ∷ H) l h =
      let f = facts meaning mounted H l.1 in
      let new = fresh r H f (fits-freely meaning mounted (Arrive r) H refl l.0).1 in
      let s = new-name r n H new (f.0 n h) in
      let q : request_named n (Arrive r ∷ H) ≡ request_named n H = rw s refl in
      subst (λ (x : Piece). is_opened x.dcb H ≡ true) (sym q) (started-opened n H l.1 h)
  started-opened n (Start m ∷ H) l h =
      let free = fits-freely meaning mounted (Start m) H refl l.0 in
      let ih : has_started n H ≡ true → is_opened (request_named n H).dcb H ≡ true = λ k. started-opened n H l.1 k in
      let own : has_started m H ≡ true → is_opened (request_named m H).dcb H ≡ true = λ k. started-opened m H l.1 k in
      elim (cases_Bool (same m n)) [
        | inl s ↦ subst (λ (x : Name). is_opened (request_named x H).dcb H ≡ true) (same-true m n s)
            (start-opened free.1 (record { legal = l.1; settled = free.0 }) own)
        | inr s ↦ ih (rw s at h)
      ]
  started-opened n (_ ∷ H) l h = started-opened n H l.1 h

  -- whose post has an error was of an opened DCB
  error-opened : (n : Name) (status : Status) (code : Code) (H : List Entry) →
      Legal meaning mounted (Post n status.csw status.sense code ∷ H) → is_error code ≡ true → is_opened (request_named n H).dcb H ≡ true
  unfolding Legal
  error-opened n status code H l e = by_due (due meaning mounted H) refl l.0 where
    free : due meaning mounted H ≡ Free → PostFits meaning mounted n status code H →
        is_opened (request_named n H).dcb H ≡ true
    free d (OfActive p) = started-opened n H l.1 (active-is n H p.active).0
    free d (OfFirst p) = grind (arith, common_steps, first-request, facts, first-opened)

    by_due : (k : Due) → due meaning mounted H ≡ k → FitsBy meaning mounted k (Post n status.csw status.sense code) H →
        is_opened (request_named n H).dcb H ≡ true
    by_due v0 d g = grind (arith, common_steps, free)

  -- a DCB with the flag was opened
  pub flag-opened : (d : ℕ) (H : List Entry) → Legal meaning mounted H → flag d H ≡ true → is_opened d H ≡ true
  unfolding Legal flag
  flag-opened d [] l h = absurd cc
  flag-opened d (Opened c i x ∷ H) l h = more d H (Opened c i x) (flag-opened d H l.1 h)
  flag-opened d (Reset c ∷ H) l h = grind (arith, common_steps, flag-opened d H l.1)
  flag-opened d (Post n c s k ∷ H) l h =
      let ih : flag d H ≡ true → is_opened d H ≡ true = λ g. flag-opened d H l.1 g in
      elim (cases_Bool (is_error k && (request_named n H).related && eqb (request_named n H).dcb d)) [
        | inl e ↦
            let a = and_parts (is_error k && (request_named n H).related) (eqb (request_named n H).dcb d) e in
            let b = and_parts (is_error k) (request_named n H).related a.0 in
            subst (λ (x : ℕ). is_opened x H ≡ true) (eqb-true (request_named n H).dcb d a.1)
            (error-opened n (record { csw = c; sense = s }) k H l b.0)
        | inr e ↦ ih (rw e at h)
      ]
  flag-opened d (_ ∷ H) l h = flag-opened d H l.1 h

  -- what a trace says of a DCB that is opened next
  dcb-new : {d : ℕ} {x : List Extent} {H : List Entry} (method : ProcessingMethod) → Legal meaning mounted H →
      OpenFits meaning mounted d x H → dcb_of d (Opened d method x ∷ H) ≡ Some
      (record { method = method; extents = x; closed = false; in_error = false })
  unfolding extents_of flag
  dcb-new {d} {x} {H} method l f =
      let self : eqb d d ≡ true = eq-eqb d d refl in
      let new : is_opened d H
      ≡ false = elim (cases_Bool (is_opened d H)) [ inl o ↦ absurd (omega (arith, (opened-few d H l o).1, f.next)) | inr o ↦ o ] in
      let shut = not-so (is_closed d H) (is_opened d H) (closed-opened d H l) new in
      let flagged = not-so (flag d H) (is_opened d H) (flag-opened d H l) new in
      let none = no-input d H new in
      rw (self, shut, flagged, none) (ap row (by_method method)) where
        row : ProcessingMethod → Option Dcb
        row m = Some (record { method = m; extents = x; closed = false; in_error = false })

        by_method : (m : ProcessingMethod) → (if is_input m || false then Input else Output) ≡ m
        by_method v0 = grind (arith, common_steps)

module _ {D : Type 0} (meaning : Meaning D) (mounted : D) where
  pub ties-open : {d : ℕ} (method : ProcessingMethod) {x : List Extent} {held : BookFields D} {o : Option Active} →
      due meaning mounted held.trace ≡ Free → OpenFits meaning mounted d x held.trace → Ties meaning mounted held o →
      Ties meaning mounted (record held {
        trace = Opened d method x ∷ held.trace;
        dcbs = held.dcbs
            ++ record { method = method; extents = x; closed = false; in_error = false } ∷ [];
      }) o
  unfolding Legal waiting arrivals active started request_named attempts posted
  ties-open {d} method {x} {held} {o} settled f t = record {
    legal = (fits-free meaning mounted (Opened d method x) held.trace settled f, t.legal);
    queue = t.queue;
    placed = t.placed;
    device = t.device;
    activity = activity-same meaning mounted (Opened d method x ∷ held.trace) t refl
        (λ n a. record { active = refl; request = refl; starts = refl; attempts = refl; halted = refl; covered = refl });
    count = omega (arith, length-append held.dcbs (row ∷ []), t.count);
    dcbs = at;
    out = t.out;
  } where
    row : Dcb
    row = record { method = method; extents = x; closed = false; in_error = false }

    place : d ≡ length held.dcbs + 1
    place = omega (arith, f.next, t.count)

    -- a number that is not 0 is one more than a place
    positive : (c : ℕ) → eqb c 0 ≡ false → 1 ≤ c
    positive v0 z = grind (arith, common_steps)

    other : (c : ℕ) → eqb d c ≡ false → eqb c 0 ≡ false → slice_get (held.dcbs ++ row ∷ []) (c - 1) ≡ slice_get held.dcbs (c - 1)
    other c e z = grind (arith, common_steps, at-push, row, eq-eqb, place, positive)

    same_at : (c : ℕ) → eqb d c ≡ false → dcb_at (held.dcbs ++ row ∷ []) c ≡ dcb_at held.dcbs c
    same_at c e = elim (cases_Bool (eqb c 0)) [ inl z ↦ rw z refl | inr z ↦ let k = other c e z in rw z k ]

    new_at : dcb_at (held.dcbs ++ row ∷ []) d ≡ Some row
    new_at =
        let z : eqb d 0 ≡ false = elim (cases_Bool (eqb d 0)) [ inl z ↦ absurd (omega (arith, place, eqb-true d 0 z)) | inr z ↦ z ] in
        rw z (slice_get-append_right held.dcbs (row ∷ []) (d - 1) 0 (omega (arith, place)))

    at : (c : ℕ) → dcb_at (held.dcbs ++ row ∷ []) c ≡ dcb_of c (Opened d method x ∷ held.trace)
    at c = grind (arith, common_steps, row, eqb-true, new_at, dcb-new, same_at, dcb-other)

  -- a trace without entries
  pub ties-new : (isc : ℕ) → Ties meaning mounted (fields_of [] (record { isc = isc; device = Some mounted; phase = Idle }) [] [] []) None
  unfolding Legal waiting arrivals active started attempts stand posted
  ties-new isc = grind (arith, common_steps)

  -- a DCB that was never opened has no flag
  pub no-flag : (d : ℕ) (H : List Entry) → Legal meaning mounted H → dcb_of d H ≡ None → flag d H ≡ false
  no-flag d H l h = grind (arith, common_steps, flag-opened)

  -- at most 65,535 DCBs are opened
  pub opened-most : (H : List Entry) → Legal meaning mounted H → opened_count H ≤ 65535
  unfolding Legal
  opened-most [] l = omega arith
  opened-most (Opened c i x ∷ H) l = let f = (fits-freely meaning mounted (Opened c i x) H refl l.0).1 in omega (arith, f.next, f.few)
  opened-most (_ ∷ H) l = opened-most H l.1
