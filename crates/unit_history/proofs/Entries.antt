-- What a replay keeps over each kind of entry.
use Rattle.std.proofs.Common.{◌≡◌, ℕ, zero, suc, ◌+◌, ◌≤◌, ◌<◌, true, false, Option, Some, None, List, ◌∷◌, refl, sym, ap, ◌∙◌, arith, inl}
use Rattle.std.proofs.Common.{inr, subst}
use Rattle.std.proofs.lemmas.Bool.{or_left}
use Rattle.io_images.specs.declared.code.Code.{Code}
use Rattle.io_images.specs.declared.csw.Csw.{Csw}
use Rattle.device_port.specs.Meaning.{Meaning, Lawful, fits}
use Rattle.ccw_programs.specs.Place.{start_place}
use Rattle.ccw_programs.specs.Step.{Program, after, is_running, length_of, program}
use Rattle.ccw_programs.proofs.StepLaws.{after-add, length-some, runs-before}
use Rattle.request_piece.specs.declared.piece.Name.{Name}
use Rattle.request_piece.specs.declared.piece.Piece.{Piece}
use Rattle.unit_book.specs.declared.entry.Entry.{Entry}
use Rattle.unit_book.specs.declared.entry.Entry.TheVariants.{Opened, Arrive, Start, Ran, Halted, Purge, Close, Reset, Post}
use Rattle.unit_book.specs.Trace.{same, active, has_arrived, has_started, request_named, started}
use Rattle.unit_book.specs.Dcbs.{is_opened, mask_of}
use Rattle.unit_book.specs.Legal.{Again, First, Legal, RanFits, StartFits}
use Rattle.unit_book.specs.Media.{area, attempts, current, device, newest, stand}
use Rattle.unit_book.proofs.ActivePosts.{area-current}
use Rattle.unit_book.proofs.Names.{Status}
use Rattle.unit_book.proofs.Facts.{NewestIs, PostOf, active-is, active-post, active-post_waiting, active-start, fits-freely, fresh}
use Rattle.unit_book.proofs.Facts.{new-name, post-whom}
use Rattle.unit_book.proofs.LegalFacts.{facts, first-named, newest-ran, request-named}
use Rattle.unit_book.proofs.Lists.{same-refl}
use Rattle.unit_book.proofs.Opens.{started-opened}
use Rattle.unit_book.proofs.Runs.{current-ran, device-current}
use Rattle.unit_book.proofs.Seeks.{fits-device, seeks}
use Rattle.unit_book.proofs.Starts.{as-issued, current-start, device-start}
use Rattle.unit_book.proofs.TraceLaws.{start-unposted}
use Rattle.unit_history.specs.declared.attempt.Attempt.{Attempt}
use Rattle.unit_history.specs.Replayed.{partly}
use Rattle.unit_history.specs.Ties.{ReplayActiveTies, AttemptTies}

module _ {D : Type 0} (meaning : Meaning D) (mounted : D) where
  -- what a replay is tied to, device and attempt
  abbrev pub Stands : List Entry → D → Option Attempt → Type 0
  Stands H now attempt = (now ≡ device meaning mounted H) × ReplayActiveTies meaning mounted H attempt

  -- an entry that is neither a start, nor commands, nor a post
  abbrev pub IsSilent : Entry → Type 0
  IsSilent (Start n) = ⊥
  IsSilent (Ran n j) = ⊥
  IsSilent (Post n csw sense code) = ⊥
  IsSilent _ = Unit {0}

  unmoved : (H G : List Entry) (now : D) (attempt : Option Attempt) → active G ≡ active H → attempts G ≡ attempts H →
      ((n : Name) → active H ≡ Some n → request_named n G ≡ request_named n H) → Stands H now attempt → Stands G now attempt
  unmoved H G now None a e r s = (s.0 ∙ ap (λ x. (stand meaning mounted x).device) (sym e), a ∙ s.1)
  unmoved H G now (Some t) a e r s = (
    s.0 ∙ ap (λ x. (stand meaning mounted x).device) (sym e),
    record {
      is = a ∙ s.1.is;
      request = s.1.request ∙ sym (r t.issued.now.name s.1.is);
      area = s.1.area ∙ ap (λ x. (newest meaning mounted x).area) (sym e);
      place = s.1.place ∙ ap (λ x. (newest meaning mounted x).place) (sym e);
    },
  )

  -- over these entries nothing moves
  pub silent : (e : Entry) (H : List Entry) (now : D) (attempt : Option Attempt) → IsSilent e → Legal meaning mounted (e ∷ H) →
      Stands H now attempt → Stands (e ∷ H) now attempt
  unfolding Legal active started attempts request_named
  silent (Opened d i x) H now attempt k l s = unmoved H (Opened d i x ∷ H) now attempt refl refl (λ n a. refl) s
  silent (Arrive r) H now attempt k l s = unmoved H (Arrive r ∷ H) now attempt refl refl other s where
    other : (n : Name) → active H ≡ Some n → request_named n (Arrive r ∷ H) ≡ request_named n H
    other n a =
        let f = facts meaning mounted H l.1 in
        let new = fresh r H f (fits-freely meaning mounted (Arrive r) H refl l.0).1 in
        let e = new-name r n H new (f.0 n (active-is n H a).0) in rw e refl
  silent (Start n) H now attempt k l s = absurd k
  silent (Ran n j) H now attempt k l s = absurd k
  silent (Halted n) H now attempt k l s = unmoved H (Halted n ∷ H) now attempt refl refl (λ n a. refl) s
  silent (Purge d m) H now attempt k l s = unmoved H (Purge d m ∷ H) now attempt refl refl (λ n a. refl) s
  silent (Close d) H now attempt k l s = unmoved H (Close d ∷ H) now attempt refl refl (λ n a. refl) s
  silent (Reset d) H now attempt k l s = unmoved H (Reset d ∷ H) now attempt refl refl (λ n a. refl) s
  silent (Post n csw sense code) H now attempt k l s = absurd k

  -- STARTS
  module _ (n : Name) (H : List Entry) (l : Legal meaning mounted (Start n ∷ H)) where
    begins : StartFits meaning mounted n H
    unfolding Legal
    begins = (fits-freely meaning mounted (Start n) H refl l.0).1

    earlier : Legal meaning mounted H
    unfolding Legal
    earlier = l.1

    started-here : has_started n (Start n ∷ H) ≡ true
    started-here = or_left (same n n) (has_started n H) (same-refl n)

    -- the DCB of the request was opened, and its seek fits the device
    pub start-opened : is_opened (request_named n H).dcb H ≡ true
    unfolding request_named
    start-opened = started-opened meaning mounted n (Start n ∷ H) l started-here

    pub start-seeks : Lawful meaning → fits meaning (device meaning mounted H) (request_named n H).seek ≡ true
    unfolding request_named
    start-seeks law = fits-device meaning mounted law H (request_named n H).seek (seeks meaning mounted (Start n ∷ H) l n started-here)

    -- whom a further start is of
    pub again-named : (m : Name) → active H ≡ Some m → m ≡ n
    again-named m a = by_start begins where
      clash : {x : Option Name} → x ≡ None → x ≡ Some m → ⊥
      clash e h = let k = sym e ∙ h in cc

      by_start : StartFits meaning mounted n H → m ≡ n
      by_start (First s) = absurd (clash s.none a)
      by_start (Again s) = let k : Some m ≡ Some n = sym a ∙ s.active in cc

    -- a first start is of a request that arrived, has this name, and was not started
    pub record IsFirst : Type 0 where
      pub arrived : has_arrived n H ≡ true
      pub named : (request_named n H).name ≡ n
      pub unstarted : has_started n H ≡ false

    pub first-start : active H ≡ None → IsFirst
    first-start a = by_start begins where
      clash : {x : Option Name} {m : Name} → x ≡ None → x ≡ Some m → ⊥
      clash e h = let k = sym e ∙ h in cc

      by_start : StartFits meaning mounted n H → IsFirst
      by_start (First s) =
          let w = first-named H (facts meaning mounted H earlier) s.first s.name in
          record { arrived = w.arrived; named = request-named n H w.arrived; unstarted = w.unstarted }
      by_start (Again s) = absurd (clash a s.active)

    -- the attempt that begins, on a request of this name with its storage as it stands
    pub start-stands : (now : D) (a : Attempt) → a.issued.now ≡ request_named n H → a.issued.now.name ≡ n →
        a.area ≡ area meaning mounted (request_named n H) H →
        a.context ≡ start_place a.issued.now.start → now ≡ meaning.prefix (device meaning mounted H) (request_named n H).seek
        (mask_of (request_named n H).dcb H) →
        Stands (Start n ∷ H) now (Some a)
    unfolding request_named
    start-stands now a r e m p d =
        let unposted = start-unposted meaning mounted n H (facts meaning mounted H earlier) begins in
        let c = current-start meaning mounted n H in (
          d ∙ sym (device-start meaning mounted n H),
          record {
            is = active-start n H unposted ∙ ap Some (sym e);
            request = r ∙ ap (λ (x : Name). request_named x H) (sym e);
            area = m ∙ sym (ap (λ (q : Program D). q.area) c);
            place = p ∙ ap (λ (q : Piece). start_place q.start) r ∙ sym (ap (λ (q : Program D). q.place) c);
          },
        )

    pub again-area : (a : Attempt) → AttemptTies meaning mounted H a → a.area ≡ area meaning mounted (request_named n H) H
    again-area a t =
        let is = subst (λ (x : Name). active H ≡ Some x) (again-named a.issued.now.name t.is) t.is in
        t.area ∙ sym (area-current meaning mounted n H ((facts meaning mounted H earlier).4 n is))

    pub first-area : active H ≡ None → area meaning mounted (request_named n H) H ≡ (request_named n H).area
    first-area a =
        let w = first-start a in
        as-issued meaning mounted (request_named n H) H earlier (subst (λ (x : Name). has_started x H ≡ false) (sym w.named) w.unstarted)

  -- POSTS
  module _ (n : Name) (csw : Csw) (sense : ℕ) (code : Code) (H : List Entry) (l : Legal meaning mounted (Post n csw sense code ∷ H)) where
    abbrev status : Status
    status = record { csw = csw; sense = sense }

    -- a post of a name that is not active leaves what is active
    waits-on : (active H ≡ Some n → ⊥) → active (Post n csw sense code ∷ H) ≡ active H
    unfolding Legal
    waits-on other = by_whom (post-whom meaning mounted status code (facts meaning mounted H l.1) l.0) where
      by_whom : PostOf n H → active (Post n csw sense code ∷ H) ≡ active H
      by_whom (inl a) = absurd (other a)
      by_whom (inr w) = active-post_waiting n status code H w.unstarted

    pub post-none : (now : D) → Stands H now None → Stands (Post n csw sense code ∷ H) now None
    unfolding attempts
    post-none now s = (s.0, waits-on (λ a. let k = sym s.1 ∙ a in cc) ∙ s.1)

    pub post-other : (now : D) (a : Attempt) → (a.issued.now.name ≡ n → ⊥) → Stands H now (Some a) →
        Stands (Post n csw sense code ∷ H) now (Some a)
    unfolding attempts request_named
    post-other now a other s = unmoved H (Post n csw sense code ∷ H) now (Some a)
        (waits-on (λ h. other (let k : Some a.issued.now.name ≡ Some n = sym s.1.is ∙ h in cc))) refl (λ m h. refl) s

    pub post-active : (now : D) (a : Attempt) → a.issued.now.name ≡ n → Stands H now (Some a) → Stands (Post n csw sense code ∷ H) now None
    unfolding Legal attempts
    post-active now a e s = (s.0, active-post status code H (facts meaning mounted H l.1) (s.1.is ∙ ap Some e))

  -- COMMANDS
  module _ (n : Name) (j : ℕ) (H : List Entry) (l : Legal meaning mounted (Ran n j ∷ H)) (k : ℕ) (few : k < j) (now : D) (a : Attempt)
      (s : Stands (partly k (Some (Ran n j)) H) now (Some a)) where
    abbrev here : List Entry
    here = partly k (Some (Ran n j)) H

    fits-run : RanFits meaning mounted n j H
    unfolding Legal
    fits-run = (fits-freely meaning mounted (Ran n j) H refl l.0).1

    newest-is : NewestIs n H
    unfolding Legal
    newest-is = (facts meaning mounted H l.1).4 n fits-run.active

    newest-here : (c : ℕ) → NewestIs n (partly c (Some (Ran n j)) H)
    newest-here zero = newest-is
    newest-here (suc c) = newest-ran n (suc c) H fits-run.active newest-is

    current-here : (c : ℕ) → current meaning mounted (partly c (Some (Ran n j)) H) ≡ after meaning c (current meaning mounted H)
    unfolding after
    current-here zero = refl
    current-here (suc c) = current-ran meaning mounted n (suc c) H newest-is

    -- the program at hand is that of the trace
    pub program-is : program a.context now a.area ≡ after meaning k (current meaning mounted H)
    program-is =
        let d = s.0 ∙ device-current meaning mounted n here (newest-here k) in
        let p = s.1.place in let m = s.1.area in
        rw (d, p, m) (current-here k)

    pub runs : is_running (program a.context now a.area).place.state ≡ true
    runs =
        let left = fits-run.left in
        subst (λ (p : Program D). is_running p.place.state ≡ true) (sym program-is)
        (runs-before meaning 4097 k (current meaning mounted H) (omega (arith, few, left)))

    pub has-left : 1 ≤ length_of meaning (program a.context now a.area)
    has-left = length-some meaning (program a.context now a.area) runs

    moved-active : (c : ℕ) → Stands (partly c (Some (Ran n j)) H) now (Some a) → active (Ran n (suc k) ∷ H) ≡ Some a.issued.now.name
    unfolding active started
    moved-active zero t = t.1.is
    moved-active (suc c) t = t.1.is

    moved-request : (c : ℕ) → Stands (partly c (Some (Ran n j)) H) now (Some a) →
        a.issued.now ≡ request_named a.issued.now.name (Ran n (suc k) ∷ H)
    unfolding request_named
    moved-request zero t = t.1.request
    moved-request (suc c) t = t.1.request

    -- behind one more command
    pub run-stands : (now_after : D) (b : Attempt) → b.issued ≡ a.issued →
        program b.context now_after b.area ≡ after meaning 1 (program a.context now a.area) →
        Stands (Ran n (suc k) ∷ H) now_after (Some b)
    run-stands now_after b same_request stepped =
        let G = Ran n (suc k) ∷ H in
        let one = after-add meaning k 1 (current meaning mounted H) in
        let more : k + 1 ≡ suc k = omega arith in
        let c : program b.context now_after b.area ≡ current meaning mounted G = stepped ∙ ap (after meaning 1) program-is ∙ sym one
        ∙ ap (λ x. after meaning x (current meaning mounted H)) more ∙ sym (current-here (suc k)) in (
          ap (λ (p : Program D). p.device) c ∙ sym (device-current meaning mounted n G (newest-here (suc k))),
          record {
            is = moved-active k s ∙ ap (λ i. Some i.now.name) (sym same_request);
            request = ap (λ i. i.now) same_request ∙ moved-request k s ∙ ap (λ i. request_named i.now.name G) (sym same_request);
            area = ap (λ (p : Program D). p.area) c;
            place = ap (λ (p : Program D). p.place) c;
          },
        )
