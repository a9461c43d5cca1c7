-- A first start: the fields stay those of the trace.
use Rattle.unit_book.proofs.Names.{no_status, empty_status, ExtentViolated, BookFields, ◌≡◌, ℕ, Bool, true, false, ◌||◌, Option, Some, None}
use Rattle.unit_book.proofs.Names.{List, [], ◌∷◌, length, refl, sym, ap, ◌∙◌, eqb, inl, inr, subst, cases_Bool, and_from, or_parts, or_left}
use Rattle.unit_book.proofs.Names.{filter, list_any, list_all, slice_get, drop, Meaning, Program, after, Idle, ssch_started, Placed, Name}
use Rattle.unit_book.proofs.Names.{Piece, Active, OnChannel, Dcb, Entry, Opened, Start, Ran, same, starts, has_started, waiting, active}
use Rattle.unit_book.proofs.Names.{request_named, passes_check, is_opened, extents_of, flag, mask_of, Attempt, attempts, stand, newest}
use Rattle.unit_book.proofs.Names.{current, device, area, Legal, due, Free, First, StartsFirst, posted, Each, Ties, dcb_at, dcb_of, mask_at}
use Rattle.unit_book.proofs.Names.{◌&&◌, ◌++◌, append_assoc, is_error, Post, Fits, posted_value, noted, arith}
use Rattle.std.specs.Global.{Box}
use Rattle.std.specs.Prelude.{option_map, box_value, MatchOption, IsSomeAnd}
use Rattle.ccw_programs.specs.Step.{begun}
use Rattle.subchannel.specs.Subchannel.{prefixed}
use Rattle.unit_book.specs.Trace.{opens_for_input}
use Rattle.unit_book.specs.Media.{lengthened}
use Rattle.unit_book.specs.Legal.{passes}
use Rattle.unit_book.specs.Fields.{extents_at, active_field_count}
use Rattle.unit_book.proofs.Lists.{all-weaker, same-refl, same-is, without, without-first, Apart, first-rest}
use Rattle.unit_book.proofs.Facts.{active-start, waiting-start, waiting-apart, fits-freely, Each-at, waiting-post, active-post_waiting}
use Rattle.unit_book.proofs.LegalFacts.{facts, first-waits, waits-at}
use Rattle.unit_book.proofs.Same.{fits-free, activity-same}
use Rattle.unit_book.proofs.TraceLaws.{start-unposted}
use Rattle.unit_book.proofs.ActivePosts.{dcb-post}
use Rattle.std.proofs.lemmas.Grind.{common_steps}

-- the name of the attempt was started
abbrev named_within : List Entry → Attempt → Bool
named_within H a = has_started a.request.name H

lengthened-named : (H : List Entry) (n : Name) (j : ℕ) (rest : List Attempt) → list_all (named_within H) rest ≡ true →
    list_all (named_within H) (lengthened n j rest) ≡ true
lengthened-named H n j [] h = refl
lengthened-named H n j (a ∷ rest) h = grind (arith, common_steps, lengthened-named H n j rest)

named-more : (H : List Entry) (n : Name) (rest : List Attempt) → list_all (named_within H) rest ≡ true →
    list_all (named_within (Start n ∷ H)) rest ≡ true
named-more H n rest h = grind (arith, common_steps, all-weaker)

pub no-starts : (n : Name) (H : List Entry) → has_started n H ≡ false → length (filter (starts n) H) ≡ 0
no-starts n [] h = refl
no-starts n (e ∷ H) h = let p = or_parts (starts n e) (has_started n H) h in let a = p.0 in rw a (no-starts n H p.1)

pub no-input : (d : ℕ) (H : List Entry) → is_opened d H ≡ false → list_any (opens_for_input d) H ≡ false
no-input d [] h = refl
no-input d (Opened c i x ∷ H) h = let p = or_parts (eqb c d) (is_opened d H) h in let a = p.0 in rw a (no-input d H p.1)
no-input d (_ ∷ H) h = no-input d H h

pub no-extents : (d : ℕ) (H : List Entry) → is_opened d H ≡ false → extents_of d H ≡ []
unfolding extents_of
no-extents d [] h = refl
no-extents d (Opened c i x ∷ H) h = let p = or_parts (eqb c d) (is_opened d H) h in let a = p.0 in rw a (no-extents d H p.1)
no-extents d (_ ∷ H) h = no-extents d H h

-- the table has the file mask of the trace
pub mask-is : (d : ℕ) (H : List Entry) → mask_at (dcb_of d H) ≡ mask_of d H
mask-is d H = elim (cases_Bool (is_opened d H)) [ inl o ↦ rw o refl | inr o ↦ let i = no-input d H o in rw (o, i) refl ]

-- the table has the extents of the trace
pub extents-is : (d : ℕ) (H : List Entry) → extents_at (dcb_of d H) ≡ extents_of d H
extents-is d H = elim (cases_Bool (is_opened d H)) [ inl o ↦ rw o refl | inr o ↦ let i = no-extents d H o in rw (o, i) refl ]

pub placed-rest : (rs : List Piece) → Each Placed rs → Each Placed (drop 1 rs)
placed-rest v0 h = grind (arith, common_steps)

abbrev pub held_first : Box Piece → Active
held_first b = record { piece = b; starts = 1; halted = false; covered = false; standing = OnChannel }

-- nothing is first in an empty queue
pub no-first : {X : Type 0} (xs : List X) → slice_get xs 0 ≡ None → xs ≡ []
no-first [] h = refl
no-first (x ∷ xs) h = absurd cc

module _ {D : Type 0} (meaning : Meaning D) (mounted : D) where
  -- each attempt is of a name that was started
  pub named : (H : List Entry) → Legal meaning mounted H → list_all (named_within H) (attempts H) ≡ true
  unfolding Legal attempts request_named
  named [] l = refl
  named (Start n ∷ H) l =
      let f = facts meaning mounted H l.1 in
      let u = start-unposted meaning mounted n H f (fits-freely meaning mounted (Start n) H refl l.0).1 in
      let w = (facts meaning mounted (Start n ∷ H) l).4 n (active-start n H u) in
      let e : (request_named n H).name ≡ n = w.4 in
      and_from (same n (request_named n H).name || has_started (request_named n H).name H)
      (list_all (named_within (Start n ∷ H)) (attempts H))
      (or_left (same n (request_named n H).name) (has_started (request_named n H).name H) (same-is n (request_named n H).name (sym e)))
      (named-more H n (attempts H) (named H l.1))
  named (Ran n j ∷ H) l = lengthened-named H n j (attempts H) (named H l.1)
  named (_ ∷ H) l = named H l.1

  as-issued_by : (r : Piece) (H : List Entry) → has_started r.name H ≡ false → (rest : List Attempt) →
      list_all (named_within H) rest ≡ true → (stand meaning mounted rest).area r ≡ r.area
  unfolding stand
  as-issued_by r H u [] h = refl
  as-issued_by r H u (a ∷ rest) h = grind (arith, common_steps, as-issued_by r H u rest)

  -- the storage of what was never started is as issued
  pub as-issued : (r : Piece) (H : List Entry) → Legal meaning mounted H → has_started r.name H ≡ false → area meaning mounted r H ≡ r.area
  as-issued r H l u = as-issued_by r H u (attempts H) (named H l)

  pub current-start : (n : Name) (H : List Entry) → current meaning mounted (Start n ∷ H) ≡
      begun (request_named n H).start
      (meaning.prefix (device meaning mounted H) (request_named n H).seek (mask_of (request_named n H).dcb H))
      (area meaning mounted (request_named n H) H)
  unfolding attempts newest after
  current-start n H = refl

  pub device-start : (n : Name) (H : List Entry) → device meaning mounted (Start n ∷ H) ≡ meaning.prefix (device meaning mounted H)
      (request_named n H).seek (mask_of (request_named n H).dcb H)
  unfolding attempts stand after
  device-start n H = refl

  -- what is tied where nothing is active
  pub none-in_field : {held : BookFields D} {o : Option Active} → active held.trace ≡ None → Ties meaning mounted held o →
      (held.channel.phase ≡ Idle) × (o ≡ None)
  none-in_field {o = None} n t = (t.activity.1, refl)
  none-in_field {o = Some a} n t = let k = sym n ∙ t.activity.is in absurd cc

  -- the request that waits first, and whether it passes the check
  pub first-told : {held : BookFields D} {o : Option Active} {r : Piece} →
      Ties meaning mounted held o → slice_get held.waiting 0 ≡ Some r →
      (slice_get (waiting held.trace) 0 ≡ Some r)
      × (passes meaning mounted r held.trace ≡ passes_check (meaning.kind mounted) (meaning.heads mounted)
      (extents_at (dcb_at held.dcbs r.dcb)) r.seek)
  first-told {held} {o} {r} t h = grind (arith, common_steps, extents-is)

  -- what a first start finds: the request that waits first, which fits, and the mask of its DCB
  pub record FoundFirst (held : BookFields D) (r : Piece) (mask : ℕ) : Type 0 where
    pub first : slice_get (waiting held.trace) 0 ≡ Some r
    pub settled : due meaning mounted held.trace ≡ Free
    pub starts : StartsFirst meaning mounted r.name held.trace
    pub mask_is : mask ≡ mask_at (dcb_at held.dcbs r.dcb)

  module _ (b : Box Piece) {held : BookFields D} {o : Option Active} {mask : ℕ}
      (t : Ties meaning mounted held o) (found : FoundFirst held b.value mask) where
    pub ties-start : Ties meaning mounted (record held {
      trace = Start b.value.name ∷ held.trace;
      channel = ssch_started meaning held.channel b.value.start b.value.seek mask held.channel.phase;
      waiting = drop 1 held.waiting;
    })
        (Some (held_first b))
    unfolding Legal posted flag extents_of request_named
    ties-start =
        let r = b.value in
        let f = facts meaning mounted held.trace t.legal in
        let n = r.name in
        let G = Start n ∷ held.trace in
        let w = first-waits r held.trace f found.first in
        let e : request_named n held.trace ≡ r = w.known.0 in
        let self : same n n ≡ true = same-refl n in
        let z = first-rest (waiting held.trace) r found.first in
        let apart = subst Apart z (waiting-apart held.trace f) in
        let m : mask ≡ mask_of r.dcb held.trace = found.mask_is ∙ ap mask_at (t.dcbs r.dcb) ∙ mask-is r.dcb held.trace in
        let issued : area meaning mounted r held.trace ≡ r.area = as-issued r held.trace t.legal w.unstarted in
        let device_is : prefixed meaning held.channel.device r.seek mask ≡ Some (device meaning mounted G) = rw (t.device, m)
        (ap Some (sym (rw e at (device-start n held.trace)))) in
        let idle = (none-in_field found.starts.none t).0 in
        let c : current meaning mounted G
        ≡ begun r.start (meaning.prefix (device meaning mounted held.trace) r.seek (mask_of r.dcb held.trace))
        (area meaning mounted r held.trace) = rw e at (current-start n held.trace) in
        let area_is : (current meaning mounted G).area ≡ r.area = ap (λ (p : Program D). p.area) c ∙ issued in
        let none = no-starts n held.trace w.unstarted in
        rw idle (record {
          legal = (fits-free meaning mounted (Start n) held.trace found.settled (First found.starts), t.legal);
          queue = ap (λ x. drop 1 x) t.queue
              ∙ sym (waiting-start n held.trace ∙ ap (without n) z ∙ without-first r (drop 1 (waiting held.trace)) apart);
          placed = placed-rest held.waiting t.placed;
          device = device_is;
          activity = record {
            is = active-start n held.trace w.unposted;
            request = rw (e, area_is) refl;
            placed = Each-at Placed held.waiting 0 r t.placed (ap (λ x. slice_get x 0) t.queue ∙ found.first);
            starts = rw self (rw none refl);
            halted = rw self refl;
            covered = rw e (rw self refl);
            standing = (sym (ap (λ (p : Program D). p.place) c), rw self (rw c refl));
          };
          count = t.count;
          dcbs = t.dcbs;
          out = t.out;
        })

module _ {D : Type 0} {meaning : Meaning D} {mounted : D} where
  -- the first of the queue is started, and what is taken from the queue is made active
  pub ties-first : (popped : Option (Box Piece)) (made : Option Active) {r : Piece} {held : BookFields D}
      {o : Option Active} {mask : ℕ} →
      Ties meaning mounted held o → FoundFirst meaning mounted held r mask → option_map box_value popped ≡ Some r →
      MatchOption popped (made ≡ None) (λ x. IsSomeAnd made (λ y. y ≡ held_first x)) →
      Ties meaning mounted (record held {
        trace = Start r.name ∷ held.trace;
        channel = ssch_started meaning held.channel r.start r.seek mask held.channel.phase;
        waiting = drop 1 held.waiting;
      }) made
      × (active_field_count made ≡ 1)
  ties-first None made t found popped_is made_is = absurd cc
  ties-first (Some b) None t found popped_is made_is = absurd made_is
  ties-first (Some b) (Some a) {r = r} {held = held} {mask = mask} t found popped_is made_is =
      grind (arith, common_steps, ties-start meaning mounted b t (subst (λ (x : Piece). FoundFirst meaning mounted held x mask) (cc) found))

-- The post of a request that waits first: the fields stay those of the trace.

module _ {D : Type 0} {meaning : Meaning D} {mounted : D} where
  module _ {r : Piece} {held : BookFields D} {o : Option Active}
      (t : Ties meaning mounted held o) where
    -- what is handed out is the value that the trace says
    pub waiting-value : slice_get (waiting held.trace) 0 ≡ Some r →
        posted_value r no_status 0 ExtentViolated r.area ≡ posted_value (request_named r.name held.trace) no_status 0 ExtentViolated
        (area meaning mounted (request_named r.name held.trace) held.trace)
    waiting-value there =
        let w = waits-at r 0 held.trace (facts meaning mounted held.trace t.legal) there in
        let issued = as-issued meaning mounted r held.trace t.legal w.unstarted in
        grind (arith, common_steps)

    pub ties-first_post : {new : List Dcb} → Fits meaning mounted (Post r.name no_status 0 ExtentViolated) held.trace →
        slice_get (waiting held.trace) 0 ≡ Some r →
        ((d : ℕ) → dcb_at new d ≡ noted (is_error ExtentViolated && r.related && eqb r.dcb d) (dcb_at held.dcbs d)) →
        length new ≡ length held.dcbs → Ties meaning mounted (record held {
          trace = Post r.name no_status 0 ExtentViolated ∷ held.trace;
          waiting = drop 1 held.waiting;
          dcbs = new;
          out = held.out ++ posted_value r no_status 0 ExtentViolated r.area ∷ [];
        }) o
    unfolding Legal attempts posted request_named
    ties-first_post fits there dcbs count =
        let f = facts meaning mounted held.trace t.legal in
        let n = r.name in
        let w = waits-at r 0 held.trace f there in
        let a = active-post_waiting n empty_status ExtentViolated held.trace w.unstarted in
        let z = first-rest (waiting held.trace) r there in
        let apart = subst Apart z (waiting-apart held.trace f) in
        let v = posted_value r no_status 0 ExtentViolated r.area in
        record {
          legal = (fits, t.legal);
          queue = ap (λ x. drop 1 x) t.queue
              ∙ sym (waiting-post n no_status 0 ExtentViolated held.trace ∙ ap (without n) z
              ∙ without-first r (drop 1 (waiting held.trace)) apart);
          placed = placed-rest held.waiting t.placed;
          device = t.device;
          activity = activity-same meaning mounted (Post n no_status 0 ExtentViolated ∷ held.trace) t a
              (λ m e. record { active = a; request = refl; starts = refl; attempts = refl; halted = refl; covered = refl });
          count = count ∙ t.count;
          dcbs = λ d. dcbs d ∙ ap (noted (is_error ExtentViolated && r.related && eqb r.dcb d)) (t.dcbs d)
              ∙ dcb-post n (record { csw = no_status; sense = 0 }) ExtentViolated held.trace d (sym w.known.0);
          out = (
            t.out.0,
            sym (append_assoc t.out.0 held.out (v ∷ [])) ∙ ap (λ x. x ++ v ∷ []) t.out.1
                ∙ ap (λ x. posted meaning mounted held.trace ++ x ∷ []) (waiting-value there),
          );
        }
