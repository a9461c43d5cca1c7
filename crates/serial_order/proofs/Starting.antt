-- Starts: the first that waits is started, and the active request is started again.
use Rattle.unit_book.proofs.Names.{is_posted, ◌≡◌, ℕ, zero, suc, ◌+◌, true, false, not, Some, List, [], ◌∷◌, refl, sym}
use Rattle.unit_book.proofs.Names.{ap, ◌∙◌, arith, inl, inr, subst, cases_Bool, slice_get, Meaning, Status, Program, after}
use Rattle.unit_book.proofs.Names.{is_running, verdict, Name, Piece, Each, PostedState, same, has_started}
use Rattle.unit_book.proofs.Names.{waiting, arrivals, flag, posted, current, active_phase, HasEnded, is_doomed, doomed, mask_of}
use Rattle.unit_book.proofs.Names.{starts_of, is_halted, Legal, StartsFirst, StartsAgain, device, area}
use Rattle.unit_book.specs.declared.entry.Entry.{Entry}
use Rattle.unit_book.specs.declared.entry.Entry.TheVariants.{Start}
use Rattle.ccw_programs.specs.declared.context.State.TheVariants.{Ended}
use Rattle.unit_book.proofs.Lists.{same-refl, same-true, no_both, all-at, none_named}
use Rattle.unit_book.proofs.Facts.{Facts, Each-at, Each-filter, Each-weaker, NewestIs, active-is, active-start, not-true}
use Rattle.unit_book.proofs.LegalFacts.{first-waits}
use Rattle.unit_book.proofs.Runs.{device-current}
use Rattle.unit_book.proofs.ActivePosts.{area-current}
use Rattle.unit_book.proofs.Starts.{no-starts, as-issued, current-start}
use Rattle.unit_book.proofs.Restarts.{retry-few}
use Rattle.unit_book.proofs.Dooms.{none-pass}
use Rattle.serial_order.specs.OneAtATime.{IdleUnit, attempt, attempts_from, to_end, verdict_on, status_at, is_turned_away, passes_extents}
use Rattle.serial_order.proofs.Uncontrolled.{Uncontrolled, Tells, Told, not-halted, doomed-is}
use Rattle.serial_order.proofs.Programs.{end-is, phase-ended, attempts-again}
use Rattle.serial_order.proofs.Agrees.{Rests, WasPosted, Later, Runs, Is, Agrees}
use Rattle.serial_order.proofs.Turns.{first-turn, active-turn, each-both}
use Rattle.unit_book.proofs.Names.{◌||◌}
use Rattle.std.proofs.lemmas.Grind.{common_steps}

-- a name that was started is not one that was not
pub other-name : (H : List Entry) (n m : Name) → has_started n H ≡ true → has_started m H ≡ false → same n m ≡ false
other-name H n m s u = elim (cases_Bool (same n m)) [
  | inl e ↦ no_both (has_started n H) s (subst (λ (x : Name). has_started x H ≡ false) (sym (same-true n m e)) u)
  | inr e ↦ e
]

-- the names of the others
pub others : (n : Name) (rs : List Piece) → none_named n rs ≡ true → Each (λ r. same n r.name ≡ false) rs
others n [] h = tt
others n (r ∷ rs) h = grind (arith, common_steps, others n rs)

-- the first that waits is not doomed, if none is
pub first-spared : (r : Piece) (H : List Entry) → doomed H ≡ [] → slice_get (waiting H) 0 ≡ Some r → is_doomed H r ≡ false
first-spared r H d s =
    not-true (is_doomed H r) (all-at (λ q. not (is_doomed H q)) (waiting H) 0 r (none-pass (is_doomed H) (waiting H) d) s)

module _ {D : Type 0} (meaning : Meaning D) (mounted : D) (O : List Entry) {H : List Entry} (no_controls : Uncontrolled H) where
  -- the first that waits is not turned away
  pub stays-here : {u : IdleUnit D} (q : Piece) → Tells O H q → Rests meaning mounted H u → is_doomed H q ≡ false → is_turned_away O u q ≡ false
  stays-here {u} q t s d =
      let e = doomed-is O q H t no_controls in
      let k = sym e ∙ d in rw (s.flags q.dcb) at k

  was-start : (n : Name) (r : Piece) (v : PostedState) → WasPosted meaning mounted H r v → WasPosted meaning mounted (Start n ∷ H) r v
  unfolding posted
  was-start n r v w = record { done = w.done; value = w.value }

  later-start : (n : Name) (u : IdleUnit D) (r : Piece) → same n r.name ≡ false → Later meaning mounted O H u r →
      Later meaning mounted O (Start n ∷ H) u r
  later-start n u r s (inl w) = inl (record { unstarted = rw s w.unstarted; unposted = w.unposted })
  later-start n u r s (inr a) = inr (record { away = a.away; was = was-start n r _ a.was })

  -- A FIRST START
  runs-first : {q : Piece} (u : IdleUnit D) → Tells O H q → Legal meaning mounted H → Facts H → (s : StartsFirst meaning mounted q.name H) →
      s.request ≡ q → doomed H ≡ [] → Rests meaning mounted H u → Runs meaning mounted O (Start q.name ∷ H) u q
  unfolding flag after
  runs-first {q} u told l f s is none rest =
      let first : slice_get (waiting H) 0 ≡ Some q = s.first ∙ ap Some is in
      let w = first-waits q H f first in
      let away = stays-here q told rest (first-spared q H none first) in
      let ok : passes_extents meaning mounted O q ≡ true = rw (told.2) (rw is at s.passes) in
      let self : same q.name q.name ≡ true = same-refl q.name in
      let few = no-starts q.name H w.unstarted in
      let c = rw w.known.0 at (current-start meaning mounted q.name H) in
      let issued : area meaning mounted q H ≡ q.area = as-issued meaning mounted q H l w.unstarted in
      let equals : device meaning mounted H ≡ u.device = rest.equals in
      let mask : mask_of q.dcb O ≡ mask_of q.dcb H = told.1 in
      record {
        active = active-start q.name H w.unposted;
        flags = rest.flags;
        left = 10;
        number = 1;
        eleven = refl;
        started = rw self (rw few refl);
        begins = attempt meaning O q u.device q.area;
        commands = 0;
        fetched = omega arith;
        few = omega arith;
        equals = c ∙ rw (equals, issued, mask) refl;
        serving = rw (away, ok) refl;
      }

  pub agrees-first : (n : Name) → Legal meaning mounted H → Facts H → StartsFirst meaning mounted n H → doomed H ≡ [] →
      (u : IdleUnit D) → Each (Told O H) (arrivals H) → Agrees meaning mounted O H u (arrivals H) →
      Agrees meaning mounted O (Start n ∷ H) u (arrivals H)
  unfolding waiting
  agrees-first n l f s none u k a =
      let q = s.request in
      let told : Tells O H q = (Each-at (Told O H) (waiting H) 0 q
      (Each-filter (Told O H) (λ r. not (has_started r.name H || is_posted r.name H)) (arrivals H) k) s.first).1 in
      let s' : StartsFirst meaning mounted q.name H
      = record { none = s.none; request = q; first = s.first; name = refl; passes = s.passes } in
      subst (λ (x : Name). Agrees meaning mounted O (Start x ∷ H) u (arrivals H)) s.name
      (first-turn meaning mounted O (was-start q.name)
      (λ u rs rest w apart later. Is (runs-first u told l f s' refl none rest)
      (each-both (later-start q.name u) rs (others q.name rs apart) later))
      s.none u (arrivals H) s.first f.5 a)

  -- the program of the active request has ended
  pub record HasRun {u : IdleUnit D} {r : Piece} (p : Runs meaning mounted O H u r) (status : Status) : Type 0 where
    pub at_end : to_end meaning p.begins ≡ current meaning mounted H
    pub status_is : status_at (current meaning mounted H).place.state ≡ status
    pub verdict_is : verdict_on (meaning.kind mounted) p.number (to_end meaning p.begins)
        ≡ verdict (meaning.kind mounted) status.csw status.sense (starts_of r.name H)

  pub has-run : {u : IdleUnit D} {r : Piece} (p : Runs meaning mounted O H u r) (status : Status) →
      active_phase meaning mounted r.name H ≡ HasEnded status → HasRun p status
  has-run {u} {r} p status e =
      let cur = current meaning mounted H in
      let state : cur.place.state ≡ Ended status.csw status.sense
      = phase-ended (is_halted r.name H) cur.place cur.place.state status (not-halted r.name H no_controls) e in
      let stopped : is_running cur.place.state ≡ false = rw state refl in
      let stopped' : is_running (after meaning p.commands p.begins).place.state ≡ false
      = subst (λ (x : Program D). is_running x.place.state ≡ false) p.equals stopped in
      let at_end : to_end meaning p.begins ≡ cur = end-is meaning p.commands p.begins p.few stopped' ∙ sym p.equals in
      let status_is : status_at cur.place.state ≡ status = ap status_at state in
      record {
        at_end = at_end;
        status_is = status_is;
        verdict_is = ap (verdict_on (meaning.kind mounted) p.number) at_end
            ∙ ap (λ (s : Status). verdict (meaning.kind mounted) s.csw s.sense p.number) status_is
            ∙ ap (verdict (meaning.kind mounted) status.csw status.sense) (sym p.started);
      }

  -- A FURTHER START
  runs-again : {r : Piece} (u : IdleUnit D) → Facts H → Told O H r → StartsAgain meaning mounted r.name H →
      Runs meaning mounted O H u r → Runs meaning mounted O (Start r.name ∷ H) u r
  unfolding flag after
  runs-again {r} u f known s p = by_left p.left refl where
    by_left : (left : ℕ) → left ≡ p.left → Runs meaning mounted O (Start r.name ∷ H) u r
    by_left zero e =
        let few = retry-few (meaning.kind mounted) s.status.csw s.status.sense (starts_of r.name H) s.retry in
        let a = p.eleven in
        let b = p.started in
        absurd (omega (arith, few, a, b, e))
    by_left (suc left) e =
        let done = has-run p s.status s.ended in
        let retry = done.verdict_is ∙ s.retry in
        let w : NewestIs r.name H = f.4 r.name s.active in
        let self : same r.name r.name ≡ true = same-refl r.name in
        let end = to_end meaning p.begins in
        let cur = current meaning mounted H in
        let c = rw known.0.0 at (current-start meaning mounted r.name H) in
        let device_is : device meaning mounted H ≡ cur.device = device-current meaning mounted r.name H w in
        let area_is : area meaning mounted r H ≡ cur.area = rw known.0.0 at (area-current meaning mounted r.name H w) in
        let mask : mask_of r.dcb O ≡ mask_of r.dcb H = known.1.1 in
        let from : attempt meaning O r (device meaning mounted H) (area meaning mounted r H) ≡ attempt meaning O r end.device end.area
        = ap (λ d. attempt meaning O r d (area meaning mounted r H)) device_is
        ∙ ap (attempt meaning O r cur.device) area_is
        ∙ ap (λ (x : Program D). attempt meaning O r x.device x.area) (sym done.at_end) in
        let a = p.eleven in
        let b = p.started in
        record {
          active = active-start r.name H (active-is r.name H s.active).1;
          flags = p.flags;
          left = left;
          number = p.number + 1;
          eleven = omega (arith, a, e);
          started = rw self (omega (arith, b));
          begins = attempt meaning O r end.device end.area;
          commands = 0;
          fetched = omega arith;
          few = omega arith;
          equals = c ∙ rw (← mask) from;
          serving = p.serving ∙ ap (λ k. attempts_from meaning mounted O k p.number r p.begins) (sym e)
              ∙ attempts-again meaning mounted O left p.number r p.begins retry;
        }

  pub agrees-again : (n : Name) → Facts H → StartsAgain meaning mounted n H → (u : IdleUnit D) (rs : List Piece) → Each (Told O H) rs →
      Agrees meaning mounted O H u rs → Agrees meaning mounted O (Start n ∷ H) u rs
  agrees-again n f s u rs k a = active-turn meaning mounted O (was-start n) (Told O H) turn s.active u rs k a where
    begun : has_started n H ≡ true
    begun = (active-is n H s.active).0

    later : (u : IdleUnit D) (r : Piece) → Later meaning mounted O H u r → Later meaning mounted O (Start n ∷ H) u r
    later u r (inl w) = later-start n u r (other-name H n r.name begun w.unstarted) (inl w)
    later u r (inr a) = inr (record { away = a.away; was = was-start n r _ a.was })

    turn : (u : IdleUnit D) (r : Piece) (rs : List Piece) → r.name ≡ n → Told O H r → Runs meaning mounted O H u r →
        Each (Later meaning mounted O H u) rs → Agrees meaning mounted O (Start n ∷ H) u (r ∷ rs)
    turn u r rs e known p l =
        let s' : StartsAgain meaning mounted r.name H = subst (λ (x : Name). StartsAgain meaning mounted x H) (sym e) s in
        Is (subst (λ (x : Name). Runs meaning mounted O (Start x ∷ H) u r) e (runs-again u f known s' p))
        (Each-weaker (Later meaning mounted O H u) (Later meaning mounted O (Start n ∷ H) u) (later u) rs l)
