-- Every trace without controls agrees with a unit that serves its requests one at a time.
use Rattle.unit_book.proofs.Names.{◌≡◌, ℕ, zero, suc, Bool, true, false, Some, None, List, [], ◌∷◌, map, refl, sym, ap, ◌∙◌}
use Rattle.unit_book.proofs.Names.{arith, inl, inr, subst, and_parts, slice_get, no_status, Csw, Code, Purged, ExtentViolated, Meaning}
use Rattle.unit_book.proofs.Names.{Place, State, Status, Name, Piece, Each, is_posted, active, started, waiting, arrivals}
use Rattle.unit_book.proofs.Names.{attempts, stand, flag, posted, active_phase_by, is_halted, is_covered, is_doomed, doomed}
use Rattle.unit_book.proofs.Names.{Legal, Due, ToHalt, ToPost, Free, due, FitsBy, PostFits, OfActive, OfFirst, PostsActive, WithVerdict}
use Rattle.unit_book.proofs.Names.{StartFits, First, Again, request_named, device}
use Rattle.unit_book.specs.declared.entry.Entry.{Entry}
use Rattle.unit_book.specs.declared.entry.Entry.TheVariants.{Opened, Arrive, Start, Ran, Halted, Purge, Close, Reset, Post}
use Rattle.unit_book.specs.Legal.{PostsAs, WhileCovered, AfterHalt}
use Rattle.unit_book.specs.Media.{WasHalted}
use Rattle.unit_book.specs.Settle.{IsIdle}
use Rattle.unit_book.proofs.Lists.{no_both, all-filter}
use Rattle.unit_book.proofs.Facts.{Facts, Each-at, Each-filter, WaitsAmong, waits, name-waits, active-is, fits-freely}
use Rattle.unit_book.proofs.Facts.{fresh, fresh-start, fresh-post, due-post}
use Rattle.unit_book.proofs.LegalFacts.{facts}
use Rattle.unit_book.proofs.Starts.{as-issued}
use Rattle.unit_book.proofs.Dooms.{due-doomed}
use Rattle.serial_order.specs.OneAtATime.{IdleUnit, without_start, is_turned_away, serve, unit_after, serve_all, after_all, fresh_unit}
use Rattle.serial_order.specs.Laws.{ServesInOrder, IsUncontrolled, opens_before, value_of}
use Rattle.serial_order.proofs.Uncontrolled.{Uncontrolled, Tells, Told, tells-own, tells-before, each-front, each-all}
use Rattle.serial_order.proofs.Uncontrolled.{not-covered, not-halted, halts-nothing}
use Rattle.serial_order.proofs.Agrees.{Later, Was, Is, Will, Agrees}
use Rattle.serial_order.proofs.Turns.{each-both, that_wait, away-next, serve-away}
use Rattle.serial_order.proofs.Quiet.{agrees-opened, agrees-arrive, agrees-ran}
use Rattle.serial_order.proofs.Starting.{agrees-first, agrees-again}
use Rattle.serial_order.proofs.Purged.{follows-error}
use Rattle.serial_order.proofs.Posting.{Dooms, agrees-ends, agrees-fails, agrees-doomed}
use Rattle.unit_book.proofs.Names.{not, list_all, ◌==◌, extents_of}
use Rattle.unit_book.specs.Dcbs.{openings}
use Rattle.std.proofs.lemmas.Grind.{common_steps}

-- a program that was not halted is not in the phase halted
unhalted : {C : Type 0} (halted : Bool) (place : Place) (state : State) (status : Status) → halted ≡ false →
    active_phase_by halted place state ≡ WasHalted status → C
unhalted v0 place v2 status h e = grind (arith, common_steps)

module _ {D : Type 0} (meaning : Meaning D) (mounted : D) where
  -- the request that is due to be posted is doomed
  doom-of : {m : Name} {H : List Entry} → Facts H → due meaning mounted H ≡ ToPost m →
      Legal meaning mounted (Post m no_status 0 Purged ∷ H) → Dooms meaning mounted H m
  unfolding Legal
  doom-of {m} {H} f e l =
      let p = due-post meaning mounted H m e in
      let r = p.0 in
      let w : Each (WaitsAmong H) (doomed H) = Each-filter (WaitsAmong H) (is_doomed H) (waiting H) (waits H f) in
      let w' : WaitsAmong H r = (rw p.2 at w).0 in
      let all = all-filter (is_doomed H) (waiting H) in
      let d : is_doomed H r ≡ true = (and_parts (is_doomed H r) _ (rw p.2 at all)).0 in
      let named : request_named m H ≡ r = ap (λ (x : Name). request_named x H) (sym p.3) ∙ w'.known.0 in
      record {
        waits = name-waits w' p.3;
        dooms = rw named d;
        issued = rw named (as-issued meaning mounted r H l.1 w'.unstarted);
        legal = l;
      }

module _ {D : Type 0} (meaning : Meaning D) (mounted : D) (O : List Entry) where
  told : (H : List Entry) → Facts H → Each (Tells O H) (arrivals H) → Each (Told O H) (arrivals H)
  told H f ts = each-both (λ r known tells. (known, tells)) (arrivals H) f.6 ts

  post-step : (n : Name) (csw : Csw) (sense : ℕ) (code : Code) (H : List Entry) → Legal meaning mounted (Post n csw sense code ∷ H) →
      Uncontrolled H → Facts H → (u : IdleUnit D) → Each (Told O H) (arrivals H) → Agrees meaning mounted O H u (arrivals H) →
      Agrees meaning mounted O (Post n csw sense code ∷ H) u (arrivals H)
  unfolding Legal
  post-step n csw sense code H l no_controls f u k a = by_due (due meaning mounted H) refl l.0 where
    ends : PostsActive meaning mounted n (record { csw = csw; sense = sense }) code H →
        PostsAs meaning mounted n (record { csw = csw; sense = sense }) code H →
        Agrees meaning mounted O (Post n csw sense code ∷ H) u (arrivals H)
    ends p (WithVerdict e v) =
        agrees-ends meaning mounted O no_controls f (record { busy = p.active; ended = e; final = v; legal = l }) u (arrivals H) k a
    ends p (WhileCovered e v c i) = no_both (is_covered (request_named n H) H) c (not-covered (request_named n H) H no_controls)
    ends p (AfterHalt e i) = unhalted (is_halted n H) _ _ _ (not-halted n H no_controls) e

    free : due meaning mounted H ≡ Free → PostFits meaning mounted n (record { csw = csw; sense = sense }) code H →
        Agrees meaning mounted O (Post n csw sense code ∷ H) u (arrivals H)
    free e (OfActive p) = ends p p.as_ended
    free e (OfFirst p) =
        let q = p.fails.request in
        let same_name : q.name ≡ n = p.fails.name in
        let same_code = p.code_is in
        let same_csw : csw ≡ no_status = p.csw_is in
        let same_sense : sense ≡ 0 = p.sense_is in
        let i : Post n csw sense code ≡ Post q.name no_status 0 ExtentViolated = cc in
        subst (λ (x : Entry). Legal meaning mounted (x ∷ H) → Agrees meaning mounted O (x ∷ H) u (arrivals H)) (sym i)
        (λ own. agrees-fails meaning mounted O no_controls l.1 f (record {
          idle = p.fails.none;
          first = p.fails.first;
          fails = p.fails.fails;
          spared = due-doomed meaning mounted H e;
          legal = own;
        }) u k a) l

    by_due : (d : Due) → d ≡ due meaning mounted H → FitsBy meaning mounted d (Post n csw sense code) H →
        Agrees meaning mounted O (Post n csw sense code ∷ H) u (arrivals H)
    by_due (ToHalt m) e fits = absurd cc
    by_due (ToPost m) e fits =
        subst (λ (x : Entry). Legal meaning mounted (x ∷ H) → Agrees meaning mounted O (x ∷ H) u (arrivals H)) (sym fits)
        (λ own. agrees-doomed meaning mounted O no_controls (doom-of meaning mounted f (sym e) own) u (arrivals H) k a) l
    by_due Free e fits = free (sym e) fits

  start-step : {n : Name} {H : List Entry} → Legal meaning mounted H → due meaning mounted H ≡ Free → StartFits meaning mounted n H →
      Uncontrolled H → Facts H → (u : IdleUnit D) → Each (Told O H) (arrivals H) → Agrees meaning mounted O H u (arrivals H) →
      Agrees meaning mounted O (Start n ∷ H) u (arrivals H)
  start-step {n} {H} l free (First s) no_controls f u k a =
      agrees-first meaning mounted O no_controls n l f s (due-doomed meaning mounted H free) u k a
  start-step {n} {H} l free (Again s) no_controls f u k a = agrees-again meaning mounted O no_controls n f s u (arrivals H) k a

  -- EVERY TRACE WITHOUT CONTROLS AGREES
  pub in-order : (H : List Entry) → Legal meaning mounted H → Uncontrolled H → opens_before H ≡ true → Each (Tells O H) (arrivals H) →
      Agrees meaning mounted O H (fresh_unit meaning mounted O) (arrivals H)
  unfolding Legal arrivals active started attempts stand flag opens_before extents_of
  in-order [] l no_controls o ts = record { idle = refl; equals = refl; flags = λ d. refl }
  in-order (Opened d method extents ∷ H) l no_controls o ts =
      let b = and_parts (list_all (λ r. not (d == r.dcb)) (arrivals H)) (opens_before H) o in
      agrees-opened meaning mounted O H d method extents (fresh_unit meaning mounted O) (arrivals H)
      (in-order H l.1 no_controls b.1 (tells-before O H d method extents (arrivals H) b.0 ts))
  in-order (Arrive r ∷ H) l no_controls o ts =
      let f = facts meaning mounted H l.1 in
      let new = fresh r H f (fits-freely meaning mounted (Arrive r) H refl l.0).1 in
      agrees-arrive meaning mounted O r (fresh_unit meaning mounted O) (arrivals H)
      (record { unstarted = fresh-start r.name H f new; unposted = fresh-post r.name H f new })
      (in-order H l.1 no_controls o (each-front (Tells O H) (arrivals H) (r ∷ []) ts))
  in-order (Start n ∷ H) l no_controls o ts =
      let free = fits-freely meaning mounted (Start n) H refl l.0 in
      let f = facts meaning mounted H l.1 in
      start-step l.1 free.0 free.1 no_controls f (fresh_unit meaning mounted O) (told H f ts) (in-order H l.1 no_controls o ts)
  in-order (Ran n j ∷ H) l no_controls o ts =
      let f = facts meaning mounted H l.1 in
      agrees-ran meaning mounted O (fits-freely meaning mounted (Ran n j) H refl l.0).1 f
      (fresh_unit meaning mounted O) (arrivals H) f.6 (in-order H l.1 no_controls o ts)
  in-order (Post n csw sense code ∷ H) l no_controls o ts =
      let f = facts meaning mounted H l.1 in
      post-step n csw sense code H l no_controls f (fresh_unit meaning mounted O) (told H f ts) (in-order H l.1 no_controls o ts)
  in-order (Halted n ∷ H) l no_controls o ts = absurd cc
  in-order (Purge scope mode ∷ H) l no_controls o ts = absurd cc
  in-order (Close d ∷ H) l no_controls o ts = absurd cc
  in-order (Reset d ∷ H) l no_controls o ts = absurd cc

module _ {D : Type 0} (meaning : Meaning D) (mounted : D) where
  module _ (opened : List Entry) where
    -- a request that is turned away now is turned away in its turn
    serve-at : (u : IdleUnit D) (rs : List Piece) (at : ℕ) (r : Piece) → slice_get rs at ≡ Some r → is_turned_away opened u r ≡ true →
        slice_get (serve_all meaning mounted opened u rs) at ≡ Some (without_start u r Purged).value
    unfolding serve_all
    serve-at u [] at r h k = absurd cc
    serve-at u (q ∷ rs) zero r h k =
        let e : q ≡ r = cc in ap (λ x. Some x.value) (serve-away meaning mounted opened u q (rw e k))
        ∙ ap (λ (x : Piece). Some (without_start u x Purged).value) e
    serve-at u (q ∷ rs) (suc at) r h k =
        serve-at (unit_after meaning mounted opened u q) rs at r h (away-next meaning mounted opened u q r k)

  module _ (opened : List Entry) (H : List Entry) where
    -- if nothing waits and nothing is active, all have the values of their turns
    values-idle : (u : IdleUnit D) (rs : List Piece) → active H ≡ None → that_wait H rs ≡ [] → Agrees meaning mounted opened H u rs →
        (map (λ r. value_of r.name (posted meaning mounted H)) rs ≡ map Some (serve_all meaning mounted opened u rs))
        × (device meaning mounted H ≡ (after_all meaning mounted opened u rs).device)
    unfolding serve_all after_all
    values-idle u [] i w s = (refl, s.equals)
    values-idle u (r ∷ rs) i w (Was p a) =
        let d = p.done in
        let w' : that_wait H rs ≡ [] = grind (arith, common_steps) in
        let ih = values-idle (unit_after meaning mounted opened u r) rs i w' a in (
          ap (λ x. x ∷ map (λ r. value_of r.name (posted meaning mounted H)) rs) p.value
              ∙ ap (λ xs. Some (serve meaning mounted opened u r).value ∷ xs) ih.0,
          ih.1,
        )
    values-idle u (r ∷ rs) i w (Is p l) = let k = sym i ∙ p.active in absurd cc
    values-idle u (r ∷ rs) i w (Will s v l) =
        let a = v.unstarted in
        let b = v.unposted in absurd (no r (that_wait H rs) (rw (a, b) at w)) where
          no : (q : Piece) (qs : List Piece) → q ∷ qs ≡ [] → ⊥
          no q qs k = cc

    later-posted : (u : IdleUnit D) (q : Piece) (rs : List Piece) (at : ℕ) (r : Piece) → slice_get rs at ≡ Some r → is_posted r.name H ≡ true →
        Later meaning mounted opened H u r →
        value_of r.name (posted meaning mounted H)
        ≡ slice_get (serve_all meaning mounted opened (unit_after meaning mounted opened u q) rs) at
    later-posted u q rs at r h d (inl w) = no_both (is_posted r.name H) d w.unposted
    later-posted u q rs at r h d (inr a) =
        a.was.value
        ∙ sym (serve-at opened (unit_after meaning mounted opened u q) rs at r h (away-next meaning mounted opened u q r a.away))

    -- a request that was posted has the value of its turn
    value-posted : (u : IdleUnit D) (rs : List Piece) (at : ℕ) (r : Piece) → slice_get rs at ≡ Some r → is_posted r.name H ≡ true →
        Agrees meaning mounted opened H u rs →
        value_of r.name (posted meaning mounted H) ≡ slice_get (serve_all meaning mounted opened u rs) at
    unfolding serve_all
    value-posted u [] at r h d a = absurd cc
    value-posted u (q ∷ rs) zero r h d (Was p a) = let e : q ≡ r = cc in rw (← e) p.value
    value-posted u (q ∷ rs) (suc at) r h d (Was p a) = value-posted (unit_after meaning mounted opened u q) rs at r h d a
    value-posted u (q ∷ rs) zero r h d (Is p l) =
        let e : q ≡ r = cc in no_both (is_posted q.name H) (rw e d) (active-is q.name H p.active).1
    value-posted u (q ∷ rs) (suc at) r h d (Is p l) =
        later-posted u q rs at r h d (Each-at (Later meaning mounted opened H u) rs at r l h)
    value-posted u (q ∷ rs) zero r h d (Will s w l) = let e : q ≡ r = cc in no_both (is_posted q.name H) (rw e d) w.unposted
    value-posted u (q ∷ rs) (suc at) r h d (Will s w l) =
        later-posted u q rs at r h d (Each-at (Later meaning mounted opened H u) rs at r l h)

pub serves-in-order : {D : Type 0} (meaning : Meaning D) → ServesInOrder meaning
unfolding waiting
serves-in-order {D} meaning = record {
  posts = λ mounted H p at r h d.
      value-posted meaning mounted (openings H) H (fresh_unit meaning mounted (openings H)) (arrivals H) at r h d (agrees mounted H p);
  values = λ mounted H p i. (both mounted H p i).0;
  same_device = λ mounted H p i. (both mounted H p i).1;
  purged = λ mounted O rs at r v e e' code opened. follows-error meaning mounted O rs at r v e e' code opened;
  determined = λ mounted G H p q i j o a. (
    (both mounted G p i).0 ∙ ap (λ os. map Some (serve_all meaning mounted os (fresh_unit meaning mounted os) (arrivals G))) o
        ∙ ap (λ rs. map Some (serve_all meaning mounted (openings H) (fresh_unit meaning mounted (openings H)) rs)) a
        ∙ sym (both mounted H q j).0,
    (both mounted G p i).1 ∙ ap (λ os. (after_all meaning mounted os (fresh_unit meaning mounted os) (arrivals G)).device) o
        ∙ ap (λ rs. (after_all meaning mounted (openings H) (fresh_unit meaning mounted (openings H)) rs).device) a
        ∙ sym (both mounted H q j).1,
  );
} where
  agrees : (mounted : D) (H : List Entry) → IsUncontrolled meaning mounted H →
      Agrees meaning mounted (openings H) H (fresh_unit meaning mounted (openings H)) (arrivals H)
  agrees mounted H p = in-order meaning mounted (openings H) H p.legal (halts-nothing meaning mounted H p.legal p.uncontrolled) p.opened (each-all (tells-own H) (arrivals H))

  both : (mounted : D) (H : List Entry) → IsUncontrolled meaning mounted H → IsIdle H →
      (map (λ r. value_of r.name (posted meaning mounted H)) (arrivals H)
      ≡ map Some (serve_all meaning mounted (openings H) (fresh_unit meaning mounted (openings H)) (arrivals H)))
      × (device meaning mounted H ≡ (after_all meaning mounted (openings H) (fresh_unit meaning mounted (openings H)) (arrivals H)).device)
  both mounted H p i =
      values-idle meaning mounted (openings H) H (fresh_unit meaning mounted (openings H)) (arrivals H) i.none_active i.none_waits
      (agrees mounted H p)
