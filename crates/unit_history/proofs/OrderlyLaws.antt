-- A legal trace is orderly.
use Rattle.std.proofs.Common.{◌≡◌, ◌≢◌, ℕ, ◌+◌, Bool, true, false, ◌||◌, Option, Some, None, List, [], ◌∷◌, ◌++◌, refl, sym, ap, ◌∙◌, arith}
use Rattle.std.proofs.Common.{append_assoc, eq-eqb, subst, inl, inr, reverse, take, drop}
use Rattle.std.proofs.lemmas.Bool.{cases_Bool, or_left, or_right}
use Rattle.std.proofs.lemmas.Grind.{common_steps}
use Rattle.std.proofs.lemmas.List.{reverse-append, take-append-drop}
use Rattle.std.specs.List.{list_any}
use Rattle.std.specs.Prelude.{slice_get}
use Rattle.device_port.specs.Meaning.{Meaning}
use Rattle.device_port.specs.declared.kind.Kind.{Kind}
use Rattle.io_images.specs.declared.code.Code.{Code}
use Rattle.io_images.specs.declared.code.Code.TheVariants.{Purged}
use Rattle.io_images.specs.declared.csw.Csw.{Csw}
use Rattle.request_piece.specs.declared.piece.Name.{Name}
use Rattle.request_piece.specs.declared.piece.Piece.{Piece}
use Rattle.unit_book.specs.declared.entry.Entry.{Entry}
use Rattle.unit_book.specs.declared.entry.Entry.TheVariants.{Opened, Arrive, Start, Ran, Halted, Purge, Close, Reset, Post}
use Rattle.unit_book.specs.Trace.{arrives, has_arrived, has_started, is_covered, is_halted, is_posted, same, starts_of}
unfoldable use Rattle.unit_book.specs.Trace.{active, request_named, started, waiting}
use Rattle.unit_book.specs.Dcbs.{doomed, is_doomed, is_opened}
unfoldable use Rattle.unit_book.specs.Dcbs.{flag}
use Rattle.io_images.specs.Codes.{is_error}
use Rattle.io_images.specs.declared.extent.Extent.{Extent}
use Rattle.unit_book.specs.declared.dcb.ProcessingMethod.{ProcessingMethod}
use Rattle.unit_book.specs.Lists.{Each}
use Rattle.unit_book.specs.Legal.{Again, Due, First, Fits, FitsBy, Free, OfActive, OfFirst, PostFits, PostsAs, StartFits, ToHalt, ToPost, is_to_halt}
use Rattle.unit_book.specs.Legal.{WithVerdict, WhileCovered, AfterHalt}
unfoldable use Rattle.unit_book.specs.Legal.{Legal, due}
use Rattle.unit_book.specs.Media.{HasEnded, WasHalted, active_phase}
use Rattle.unit_book.proofs.Facts.{Each-filter, Facts, NameWaits, WaitsAmong, active-is, active-post, active-post_waiting, active-start}
use Rattle.unit_book.proofs.Facts.{due-halt, due-post, fits-freely, fresh, name-waits, new-name, post-whom, waits}
use Rattle.unit_book.proofs.LegalFacts.{facts, first-named, first-request}
use Rattle.unit_book.proofs.Dooms.{due-doomed, settled-open}
use Rattle.unit_book.proofs.Controls.{settled-reset}
use Rattle.unit_book.proofs.Opens.{flag-opened, opened-few}
use Rattle.unit_book.proofs.Lists.{no_both, same-is, same-refl, same-true}
use Rattle.unit_book.proofs.TraceLaws.{any-later, start-unposted}
use Rattle.unit_book.proofs.Names.{Final, Status, verdict}
use Rattle.unit_book.proofs.Restarts.{retry-few}
use Rattle.unit_book.proofs.Starts.{no-starts}
use Rattle.unit_history.proofs.ReplayBefore.{before-next}
use Rattle.unit_history.specs.Ties.{ArrivesAt}
use Rattle.std.proofs.lemmas.List.Folds.{list_any-append}
use Rattle.unit_history.proofs.TurnLaws.{rest-at}
use Rattle.unit_history.specs.Events.{entries_so_far}
use Rattle.unit_history.specs.Orderly.{Doomed, Ended, ErrorFollows, Failed, IsAfter, OpenFollows, PostFollows, StartFollows, Stopped}
unfoldable use Rattle.unit_history.specs.Orderly.{Orderly}

-- the verdict is never that of a purge
final-code : (kind : Kind) (csw : Csw) (sense attempt : ℕ) (code : Code) → verdict kind csw sense attempt ≡ Final code → code ≢ Purged
final-code kind csw sense attempt code h e = grind (arith, common_steps)

module _ {D : Type 0} (meaning : Meaning D) (mounted : D) where
  -- what has ended was not halted
  ended-unhalted : (n : Name) (status : Status) (H : List Entry) → active_phase meaning mounted n H ≡ HasEnded status → is_halted n H ≡ false
  ended-unhalted n status H h = grind (arith, common_steps)

  was-halted : (n : Name) (status : Status) (H : List Entry) → active_phase meaning mounted n H ≡ WasHalted status → is_halted n H ≡ true
  was-halted n status H h = grind (arith, common_steps)

  -- a purge that halts covers
  to_halt-covered : (n : Name) (H : List Entry) → is_to_halt meaning mounted H n ≡ true → is_covered (request_named n H) H ≡ true
  unfolding request_named
  to_halt-covered n H h = grind (arith, common_steps)

  some-is : {n m : Name} → Some n ≡ Some m → n ≡ m
  some-is e = cc

  -- WHAT WAS HALTED was covered
  halted-covered : (n : Name) (H : List Entry) → Legal meaning mounted H → active H ≡ Some n → is_halted n H ≡ true →
      is_covered (request_named n H) H ≡ true
  unfolding Legal active started request_named
  halted-covered n [] l a h = absurd cc
  halted-covered n (Opened d i x ∷ H) l a h = halted-covered n H l.1 a h
  halted-covered n (Arrive r ∷ H) l a h =
      let f = facts meaning mounted H l.1 in
      let e = new-name r n H (fresh r H f (fits-freely meaning mounted (Arrive r) H refl l.0).1) (f.0 n (active-is n H a).0) in
      let q : request_named n (Arrive r ∷ H) ≡ request_named n H = rw e refl in
      subst (λ (x : Piece). is_covered x (Arrive r ∷ H) ≡ true) (sym q) (halted-covered n H l.1 a h)
  halted-covered n (Start m ∷ H) l a h = started_now (start-unposted meaning mounted m H (facts meaning mounted H l.1)
      (fits-freely meaning mounted (Start m) H refl l.0).1) a h where
        started_now : is_posted m H ≡ false → active (Start m ∷ H) ≡ Some n → is_halted n (Start m ∷ H) ≡ true →
            is_covered (request_named n H) (Start m ∷ H) ≡ true
        started_now u a h =
            let e : m ≡ n = some-is (sym (active-start m H u) ∙ a) in
            let s = same-is m n e in
            no_both (is_halted n (Start m ∷ H)) h (rw s refl)
  halted-covered n (Ran m j ∷ H) l a h = halted-covered n H l.1 a h
  halted-covered n (Halted m ∷ H) l a h = by_due (due meaning mounted H) refl l.0 where
    by_due : (d : Due) → d ≡ due meaning mounted H → FitsBy meaning mounted d (Halted m) H → is_covered (request_named n H) H ≡ true
    by_due (ToHalt k) e f =
        let w = due-halt meaning mounted H k (sym e) in
        let i : k ≡ n = some-is (sym w.0 ∙ a) in
        subst (λ (x : Name). is_covered (request_named x H) H ≡ true) i (to_halt-covered k H w.1)
    by_due (ToPost k) e f = absurd cc
    by_due Free e f = absurd f
  halted-covered n (Purge s m ∷ H) l a h = or_right _ (is_covered (request_named n H) H) (halted-covered n H l.1 a h)
  halted-covered n (Close d ∷ H) l a h = halted-covered n H l.1 a h
  halted-covered n (Reset d ∷ H) l a h = halted-covered n H l.1 a h
  halted-covered n (Post m csw sense code ∷ H) l a h =
      let f = facts meaning mounted H l.1 in
      let status : Status = record { csw = csw; sense = sense } in
      elim (post-whom meaning mounted status code f l.0) [
        | inl b ↦ let k : None ≡ Some n = sym (active-post status code H f b) ∙ a in absurd cc
        | inr w ↦ halted-covered n H l.1 (sym (active-post_waiting m status code H w.unstarted) ∙ a) h
      ]

  -- THE LAWS of each entry
  start-follows : (n : Name) (H : List Entry) → Legal meaning mounted H → StartFits meaning mounted n H → StartFollows n H
  start-follows n H l (First s) =
      let w = first-named H (facts meaning mounted H l) s.first s.name in
      record {
        arrived = w.arrived;
        few = omega (arith, no-starts n H w.unstarted);
        whom = inr (s.none, w.unstarted);
        after = active-start n H w.unposted;
      }
  start-follows n H l (Again s) =
      let a = active-is n H s.active in
      record {
        arrived = (facts meaning mounted H l).0 n a.0;
        few = retry-few (meaning.kind mounted) s.status.csw s.status.sense (starts_of n H) s.retry;
        whom = inl s.active;
        after = active-start n H a.1;
      }

  module _ (n : Name) (status : Status) (code : Code) (H : List Entry) (l : Legal meaning mounted H) where
    abbrev after : Option Name
    after = active (Post n status.csw status.sense code ∷ H)

    f : Facts H
    f = facts meaning mounted H l

    active-follows : active H ≡ Some n → PostsAs meaning mounted n status code H → PostFollows n code H after
    active-follows a (WithVerdict e v) =
        Ended a (active-post status code H f a) (ended-unhalted n status H e)
        (final-code (meaning.kind mounted) status.csw status.sense (starts_of n H) code v)
    active-follows a (WhileCovered e v c k) = Stopped a (active-post status code H f a) c k
    active-follows a (AfterHalt e k) = Stopped a (active-post status code H f a) (halted-covered n H l a (was-halted n status H e)) k

    free-follows : PostFits meaning mounted n status code H → PostFollows n code H after
    free-follows (OfActive p) = active-follows p.active p.as_ended
    free-follows (OfFirst p) =
        let w = first-named H f p.fails.first p.fails.name in
        Failed p.fails.none (active-post_waiting n status code H w.unstarted ∙ p.fails.none) w.unstarted
        (p.fails.first ∙ ap Some (sym (first-request H f p.fails.first p.fails.name))) p.code_is

    doomed-follows : NameWaits n H → (rest : List Piece) → doomed H ≡ request_named n H ∷ rest → code ≡ Purged → PostFollows n code H after
    doomed-follows w rest d k =
        Doomed (λ a. no_both (has_started n H) (active-is n H a).0 w.unstarted) (active-post_waiting n status code H w.unstarted) w.unstarted rest d k

    post-follows : Fits meaning mounted (Post n status.csw status.sense code) H → PostFollows n code H after
    post-follows h = by_due (due meaning mounted H) refl h where
      by_due : (d : Due) → d ≡ due meaning mounted H → FitsBy meaning mounted d (Post n status.csw status.sense code) H →
          PostFollows n code H after
      by_due (ToHalt m) e k = absurd cc
      by_due (ToPost m) e k =
          let p = due-post meaning mounted H m (sym e) in
          let q : m ≡ n = cc in
          let r : code ≡ Purged = cc in
          let w : Each (WaitsAmong H) (doomed H) = Each-filter (WaitsAmong H) (is_doomed H) (waiting H) (waits H f) in
          let w' = rw p.2 at w in
          let named : p.0 ≡ request_named n H = sym w'.0.known.0 ∙ ap (λ (x : Name). request_named x H) (p.3 ∙ q) in
          doomed-follows (name-waits w'.0 (p.3 ∙ q)) p.1 (p.2 ∙ ap (λ (x : Piece). x ∷ p.1) named) r
      by_due Free e k = free-follows k

  -- a post in error
  error-opened : (n : Name) (csw : Csw) (sense : ℕ) (code : Code) (H : List Entry) → Legal meaning mounted (Post n csw sense code ∷ H) →
      is_error code ≡ true → (request_named n H).related ≡ true → is_opened (request_named n H).dcb H ≡ true
  unfolding flag
  error-opened n csw sense code H l e r =
      let self = eq-eqb (request_named n H).dcb (request_named n H).dcb refl in
      flag-opened meaning mounted (request_named n H).dcb (Post n csw sense code ∷ H) l (rw (e, r, self) refl)

  free-arrived : (n : Name) (status : Status) (code : Code) (H : List Entry) → Legal meaning mounted H → PostFits meaning mounted n status code H →
      has_arrived n H ≡ true
  free-arrived n status code H l (OfActive p) = (facts meaning mounted H l).0 n (active-is n H p.active).0
  free-arrived n status code H l (OfFirst p) = (first-named H (facts meaning mounted H l) p.fails.first p.fails.name).arrived

  error-follows : (n : Name) (csw : Csw) (sense : ℕ) (code : Code) (H : List Entry) → Legal meaning mounted H →
      Fits meaning mounted (Post n csw sense code) H → is_error code ≡ true → ErrorFollows n H
  unfolding Legal
  error-follows n csw sense code H l h e = by_due (due meaning mounted H) refl h where
    by_due : (d : Due) → d ≡ due meaning mounted H → FitsBy meaning mounted d (Post n csw sense code) H → ErrorFollows n H
    by_due (ToHalt m) q k = absurd cc
    by_due (ToPost m) q k = absurd (let p : code ≡ Purged = cc in no_both (is_error code) e (rw p refl))
    by_due Free q k = record {
      arrived = free-arrived n (record { csw = csw; sense = sense }) code H l k;
      spared = due-doomed meaning mounted H (sym q);
      opened = error-opened n csw sense code H (h, l) e;
    }

  open-follows : (d : ℕ) (m : ProcessingMethod) (x : List Extent) (H : List Entry) → Legal meaning mounted H →
      Fits meaning mounted (Opened d m x) H → OpenFollows d (Opened d m x) H
  open-follows d m x H l h =
      let f = fits-freely meaning mounted (Opened d m x) H refl h in
      let g = f.1 in
      let unopened : is_opened d H ≡ false = elim (cases_Bool (is_opened d H)) [
        | inl o ↦ absurd (omega (arith, (opened-few meaning mounted d H l o).1, g.next))
        | inr o ↦ o
      ] in
      record {
        spared = due-doomed meaning mounted (Opened d m x ∷ H) (settled-open meaning mounted (Opened d m x) H refl f.0);
        next = g.next;
        new = unopened;
      }

  follows : (e : Entry) (H : List Entry) → Legal meaning mounted H → Fits meaning mounted e H → IsAfter e H
  follows (Opened d i x) H l h = open-follows d i x H l h
  follows (Arrive r) H l h =
      let f = fits-freely meaning mounted (Arrive r) H refl h in
      (fresh r H (facts meaning mounted H l) f.1, due-doomed meaning mounted H f.0)
  follows (Start n) H l h = start-follows n H l (fits-freely meaning mounted (Start n) H refl h).1
  follows (Ran n j) H l h = tt
  follows (Halted n) H l h = tt
  follows (Purge s m) H l h = due-doomed meaning mounted H (fits-freely meaning mounted (Purge s m) H refl h).0
  follows (Close d) H l h =
      let f = fits-freely meaning mounted (Close d) H refl h in
      (due-doomed meaning mounted H f.0, f.1)
  follows (Reset d) H l h =
      due-doomed meaning mounted (Reset d ∷ H) (settled-reset meaning mounted d H (fits-freely meaning mounted (Reset d) H refl h).0)
  follows (Post n csw sense code) H l h =
      (post-follows n (record { csw = csw; sense = sense }) code H l h, error-follows n csw sense code H l h)

  -- A LEGAL TRACE IS ORDERLY
  pub orderly : (H : List Entry) → Legal meaning mounted H → Orderly H
  unfolding Legal Orderly
  orderly [] l = tt
  orderly (e ∷ H) l = (follows e H l.1 l.0, orderly H l.1)

orderly-tail : (later earlier : List Entry) → Orderly (later ++ earlier) → Orderly earlier
unfolding Orderly
orderly-tail [] earlier o = o
orderly-tail (e ∷ later) earlier o = orderly-tail later earlier o.1

first-follows : (e : Entry) (H : List Entry) → Orderly (e ∷ H) → IsAfter e H
unfolding Orderly
first-follows e H o = o.0

-- the entries before a place are orderly
pub orderly-before : (es : List Entry) (done : ℕ) → Orderly (reverse es) → Orderly (entries_so_far es done)
orderly-before es done o =
    let parted : reverse es ≡ reverse (drop done es) ++ entries_so_far es done =
    ap reverse (sym (take-append-drop done es)) ∙ reverse-append (take done es) (drop done es) in
    orderly-tail (reverse (drop done es)) (entries_so_far es done) (subst Orderly parted o)

-- the next entry follows them
pub follows-at : (es : List Entry) (done : ℕ) (e : Entry) → slice_get es done ≡ Some e → Orderly (reverse es) → IsAfter e (entries_so_far es done)
follows-at es done e here o =
    first-follows e (entries_so_far es done) (subst Orderly (before-next es done e here) (orderly-before es (done + 1) o))

-- THE ARRIVAL of a request, wherever it is
named-in : (r : Piece) (later earlier : List Entry) → Orderly (later ++ Arrive r ∷ earlier) →
    request_named r.name (later ++ Arrive r ∷ earlier) ≡ r
unfolding Orderly request_named
named-in r [] earlier o = let s = same-refl r.name in rw s refl
named-in r (Arrive q ∷ later) earlier o =
    elim (cases_Bool (same q.name r.name)) [
      | inl s ↦
          let e = same-true q.name r.name s in
          let there : has_arrived q.name (later ++ Arrive r ∷ earlier) ≡ true =
          any-later (arrives q.name) later (Arrive r ∷ earlier) (or_left (same r.name q.name) _ (same-is r.name q.name (sym e))) in
          no_both (has_arrived q.name (later ++ Arrive r ∷ earlier)) there o.0.0
      | inr s ↦ rw s (named-in r later earlier o.1)
    ]
named-in r (Opened d i x ∷ later) earlier o = named-in r later earlier o.1
named-in r (Start n ∷ later) earlier o = named-in r later earlier o.1
named-in r (Ran n j ∷ later) earlier o = named-in r later earlier o.1
named-in r (Halted n ∷ later) earlier o = named-in r later earlier o.1
named-in r (Purge s m ∷ later) earlier o = named-in r later earlier o.1
named-in r (Close d ∷ later) earlier o = named-in r later earlier o.1
named-in r (Reset d ∷ later) earlier o = named-in r later earlier o.1
named-in r (Post n c s k ∷ later) earlier o = named-in r later earlier o.1

reversed-at : (xs : List Entry) (k : ℕ) (e : Entry) → slice_get xs k ≡ Some e →
    reverse xs ≡ reverse (drop (k + 1) xs) ++ e ∷ reverse (take k xs)
reversed-at xs k e h =
    ap reverse (sym (take-append-drop k xs)) ∙ reverse-append (take k xs) (drop k xs)
    ∙ ap (λ ys. reverse ys ++ reverse (take k xs)) (rest-at xs k e h)
    ∙ ap (λ ys. ys ++ reverse (take k xs)) (reverse-append (e ∷ []) (drop (k + 1) xs))
    ∙ append_assoc (reverse (drop (k + 1) xs)) (e ∷ []) (reverse (take k xs))

pub arrival-is : (es : List Entry) (done place : ℕ) (n : Name) (r : Piece) → Orderly (reverse es) →
    ArrivesAt (take done es) n place r → r ≡ request_named n (entries_so_far es done)
arrival-is es done place n r o at =
    let parted = reversed-at (take done es) place (Arrive r) at.0 in
    let later = reverse (drop (place + 1) (take done es)) in
    let earlier = reverse (take place (take done es)) in
    let k = named-in r later earlier (subst Orderly parted (orderly-before es done o)) in
    sym (subst (λ (x : Name). request_named x (entries_so_far es done) ≡ r) at.1 (rw parted k))

pub any-reverse : (p : Entry → Bool) (xs : List Entry) → list_any p (reverse xs) ≡ list_any p xs
any-reverse p [] = refl
any-reverse p (x ∷ xs) = reversed (any-reverse p xs) where
  reversed : list_any p (reverse xs) ≡ list_any p xs → list_any p (reverse (x ∷ xs)) ≡ (p x || list_any p xs)
  reversed ih = ap (list_any p) (reverse-append (x ∷ []) xs) ∙ list_any-append p (reverse xs) (x ∷ []) ∙ swapped (list_any p (reverse xs)) (p x) ∙ ap (λ b. p x || b) ih where
    swapped : (a b : Bool) → (a || (b || false)) ≡ (b || a)
    swapped true true = refl
    swapped true false = refl
    swapped false true = refl
    swapped false false = refl
