-- Posts: of the active request, of the first that waits if it fails the extent check, and of a doomed request.
use Rattle.unit_book.proofs.Names.{◌≡◌, ℕ, true, false, ◌&&◌, if◌then◌else◌, ◌==◌, Some, None, List, [], ◌∷◌, refl, sym}
use Rattle.unit_book.proofs.Names.{ap, ◌∙◌, inl, inr, subst, cases_Bool, or_left, or_right, slice_get, no_status, is_error, Meaning}
use Rattle.unit_book.proofs.Names.{Csw, Code, Purged, ExtentViolated, Status, Final, verdict, Name, Piece, Each, PostedState, same}
use Rattle.unit_book.proofs.Names.{has_started, is_posted, active, waiting, arrivals, attempts, flag, posted, posted_value, current}
use Rattle.unit_book.proofs.Names.{active_phase, HasEnded, is_doomed, doomed, starts_of, Legal, request_named, device, area, Storage}
use Rattle.unit_book.specs.declared.entry.Entry.{Entry}
use Rattle.unit_book.specs.declared.entry.Entry.TheVariants.{Post}
use Rattle.unit_book.specs.Legal.{passes}
use Rattle.unit_book.proofs.Lists.{same-refl, same-true, none_named}
use Rattle.unit_book.proofs.Facts.{Facts, Known, Each-at, Each-filter, Each-weaker, NewestIs, NameWaits, WaitsAmong, active-is}
use Rattle.unit_book.proofs.Facts.{active-post, active-post_waiting}
use Rattle.unit_book.proofs.LegalFacts.{first-waits}
use Rattle.unit_book.proofs.Runs.{device-current}
use Rattle.unit_book.proofs.ActivePosts.{area-current}
use Rattle.unit_book.proofs.Starts.{as-issued}
use Rattle.serial_order.specs.OneAtATime.{IdleUnit, Served, without_start, with_program, serve, unit_after}
use Rattle.serial_order.specs.OneAtATime.{passes_extents, flags_after}
use Rattle.serial_order.specs.Laws.{value_of}
use Rattle.serial_order.proofs.Uncontrolled.{Uncontrolled, Tells, Told, doomed-is}
use Rattle.serial_order.proofs.Programs.{attempts-final}
use Rattle.serial_order.proofs.Values.{value-post, value-stays, value-code, value_at}
use Rattle.serial_order.proofs.Agrees.{Rests, WasPosted, Away, Later, Runs, Was, Is, Will, Agrees}
use Rattle.serial_order.proofs.Turns.{first-turn, active-turn, each-both, absorb, away-next}
use Rattle.serial_order.proofs.Starting.{has-run, other-name, others, first-spared, stays-here}
use Rattle.unit_book.proofs.Names.{not, ◌||◌}

module _ {D : Type 0} (meaning : Meaning D) (mounted : D) where
  -- the active request has ended, and is posted so
  pub record Ends (H : List Entry) (n : Name) (csw : Csw) (sense : ℕ) (code : Code) : Type 0 where
    pub busy : active H ≡ Some n
    pub ended : active_phase meaning mounted n H ≡ HasEnded (record { csw = csw; sense = sense })
    pub final : verdict (meaning.kind mounted) csw sense (starts_of n H) ≡ Final code
    pub legal : Legal meaning mounted (Post n csw sense code ∷ H)

  -- the first that waits fails the extent check, and is posted so
  pub record Fails (H : List Entry) (q : Piece) : Type 0 where
    pub idle : active H ≡ None
    pub first : slice_get (waiting H) 0 ≡ Some q
    pub fails : passes meaning mounted q H ≡ false
    pub spared : doomed H ≡ []
    pub legal : Legal meaning mounted (Post q.name no_status 0 ExtentViolated ∷ H)

  -- a request that waits is doomed, and is posted so
  pub record Dooms (H : List Entry) (n : Name) : Type 0 where
    pub waits : NameWaits n H
    pub dooms : is_doomed H (request_named n H) ≡ true
    pub issued : area meaning mounted (request_named n H) H ≡ (request_named n H).area
    pub legal : Legal meaning mounted (Post n no_status 0 Purged ∷ H)

module _ {D : Type 0} (meaning : Meaning D) (mounted : D) (O : List Entry) {H : List Entry} (no_controls : Uncontrolled H) where
  was-post : (n : Name) (csw : Csw) (sense : ℕ) (code : Code) (r : Piece) (v : PostedState) → WasPosted meaning mounted H r v →
      WasPosted meaning mounted (Post n csw sense code ∷ H) r v
  was-post n csw sense code r v w = record {
    done = or_right (same n r.name) (is_posted r.name H) w.done;
    value = value-stays meaning mounted r.name v n csw sense code H w.value;
  }

  -- those of other names have their turns later, of the unit as it is then
  later-post : (n : Name) (csw : Csw) (sense : ℕ) (code : Code) (u : IdleUnit D) (q r : Piece) →
      (has_started r.name H ≡ false → same n r.name ≡ false) → Later meaning mounted O H u r →
      Later meaning mounted O (Post n csw sense code ∷ H) (unit_after meaning mounted O u q) r
  later-post n csw sense code u q r s (inl w) = inl (record { unstarted = w.unstarted; unposted = rw (s w.unstarted) w.unposted })
  later-post n csw sense code u q r s (inr a) = inr (record {
    away = away-next meaning mounted O u q r a.away;
    was = was-post n csw sense code r _ a.was;
  })

  -- THE UNIT AFTER A REQUEST was served with this value
  rests-post : (u : IdleUnit D) {r : Piece} (csw : Csw) (sense : ℕ) (code : Code) →
      ((d : ℕ) → flag d H ≡ u.in_error d) → Known H r → active (Post r.name csw sense code ∷ H) ≡ None →
      device meaning mounted H ≡ (serve meaning mounted O u r).device →
      (serve meaning mounted O u r).value.code ≡ code →
      Rests meaning mounted (Post r.name csw sense code ∷ H) (unit_after meaning mounted O u r)
  unfolding attempts flag
  rests-post u {r} csw sense code flags known idle equals code_is = record {
    idle = idle;
    equals = equals;
    flags = λ d.
        ap (λ (q : Piece). if is_error code && q.related && (q.dcb == d) then true else flag d H) known.0
        ∙ ap (λ f. if is_error code && r.related && (r.dcb == d) then true else f) (flags d)
        ∙ ap (λ c. flags_after u.in_error r c d) (sym code_is);
  }

  -- the value that the post hands out
  was-served : {r : Piece} (csw : Csw) (sense : ℕ) (code : Code) (m : Storage) →
      Legal meaning mounted (Post r.name csw sense code ∷ H) → Known H r → is_posted r.name H ≡ false →
      area meaning mounted r H ≡ m → (v : PostedState) → v ≡ posted_value r csw sense code m →
      WasPosted meaning mounted (Post r.name csw sense code ∷ H) r v
  was-served {r = r} csw sense code m l known new area_is v is = record {
    done = or_left (same r.name r.name) (is_posted r.name H) (same-refl r.name);
    value = value-post meaning mounted r.name csw sense code H l new
        ∙ ap (λ (q : Piece). Some (posted_value q csw sense code (area meaning mounted q H))) known.0
        ∙ ap (λ x. Some (posted_value r csw sense code x)) area_is
        ∙ ap Some (sym is);
  }

  -- THE POST OF THE ACTIVE REQUEST
  final-served : {u : IdleUnit D} {r : Piece} (csw : Csw) (sense : ℕ) (code : Code) (p : Runs meaning mounted O H u r) →
      active_phase meaning mounted r.name H ≡ HasEnded (record { csw = csw; sense = sense }) →
      verdict (meaning.kind mounted) csw sense (starts_of r.name H) ≡ Final code →
      ((serve meaning mounted O u r).device ≡ (current meaning mounted H).device)
      × ((serve meaning mounted O u r).value ≡ posted_value r csw sense code (current meaning mounted H).area)
  final-served {u} {r} csw sense code p e v =
      let done = has-run meaning mounted O no_controls p (record { csw = csw; sense = sense }) e in
      let cur = current meaning mounted H in
      let whole : serve meaning mounted O u r ≡ with_program r cur code
      = p.serving ∙ attempts-final meaning mounted O p.left p.number r p.begins code (done.verdict_is ∙ v)
      ∙ ap (λ x. with_program r x code) done.at_end in (
        ap (λ (x : Served D). x.device) whole,
        ap (λ (x : Served D). x.value) whole ∙ ap (λ (s : Status). posted_value r s.csw s.sense code cur.area) done.status_is,
      )

  turn-ends : {csw : Csw} {sense : ℕ} {code : Code} (u : IdleUnit D) (r : Piece) (rs : List Piece) → Facts H →
      Ends meaning mounted H r.name csw sense code → Known H r → Runs meaning mounted O H u r → Each (Later meaning mounted O H u) rs →
      Agrees meaning mounted O (Post r.name csw sense code ∷ H) u (r ∷ rs)
  turn-ends {csw} {sense} {code} u r rs f e known p l = Was
      (was-served csw sense code (current meaning mounted H).area e.legal known b.1 area_is (serve meaning mounted O u r).value v.1)
      (absorb meaning mounted O rs
      (rests-post u csw sense code p.flags known (active-post (record { csw = csw; sense = sense }) code H f e.busy)
      (device-current meaning mounted r.name H w ∙ sym v.0) code_is)
      (Each-weaker (Later meaning mounted O H u)
      (Later meaning mounted O (Post r.name csw sense code ∷ H) (unit_after meaning mounted O u r))
      (λ q. later-post r.name csw sense code u r q (other-name H r.name q.name b.0)) rs l)) where
        b : (has_started r.name H ≡ true) × (is_posted r.name H ≡ false)
        b = active-is r.name H e.busy

        w : NewestIs r.name H
        w = f.4 r.name e.busy

        v : ((serve meaning mounted O u r).device ≡ (current meaning mounted H).device)
            × ((serve meaning mounted O u r).value ≡ posted_value r csw sense code (current meaning mounted H).area)
        v = final-served csw sense code p e.ended e.final

        area_is : area meaning mounted r H ≡ (current meaning mounted H).area
        area_is = rw known.0 at (area-current meaning mounted r.name H w)

        code_is : (serve meaning mounted O u r).value.code ≡ code
        code_is = ap (λ (x : PostedState). x.code) v.1 ∙ value-code r csw sense code (current meaning mounted H).area

  pub agrees-ends : {n : Name} {csw : Csw} {sense : ℕ} {code : Code} → Facts H → Ends meaning mounted H n csw sense code →
      (u : IdleUnit D) (rs : List Piece) →
      Each (Told O H) rs → Agrees meaning mounted O H u rs →
      Agrees meaning mounted O (Post n csw sense code ∷ H) u rs
  agrees-ends {n} {csw} {sense} {code} f e u rs k a = active-turn meaning mounted O (was-post n csw sense code) (Told O H)
      (λ u r rs i known p l.
      subst (λ (x : Name). Ends meaning mounted H x csw sense code → Agrees meaning mounted O (Post x csw sense code ∷ H) u (r ∷ rs)) i
      (λ own. turn-ends u r rs f own known.0 p l) e)
      e.busy u rs k a

  -- THE POST OF THE FIRST THAT WAITS, which fails the extent check
  turn-fails : {q : Piece} (u : IdleUnit D) (rs : List Piece) → Tells O H q → Legal meaning mounted H → Facts H → Fails meaning mounted H q →
      Rests meaning mounted H u → none_named q.name rs ≡ true → Each (Later meaning mounted O H u) rs →
      Agrees meaning mounted O (Post q.name no_status 0 ExtentViolated ∷ H) u (q ∷ rs)
  turn-fails {q} u rs told l f e s apart later = Was
      (was-served no_status 0 ExtentViolated q.area e.legal w.known w.unposted (as-issued meaning mounted q H l w.unstarted)
      (serve meaning mounted O u q).value (ap (λ (x : Served D). x.value) served))
      (absorb meaning mounted O rs
      (rests-post u no_status 0 ExtentViolated s.flags w.known
      (active-post_waiting q.name (record { csw = no_status; sense = 0 }) ExtentViolated H w.unstarted ∙ s.idle)
      (s.equals ∙ ap (λ (x : Served D). x.device) (sym served))
      (ap (λ (x : Served D). x.value.code) served ∙ value-code q no_status 0 ExtentViolated q.area))
      (each-both (λ r i x. later-post q.name no_status 0 ExtentViolated u q r (λ _. i) x) rs (others q.name rs apart) later)) where
        w : WaitsAmong H q
        w = first-waits q H f e.first

        served : serve meaning mounted O u q ≡ without_start u q ExtentViolated
        served =
            let away = stays-here meaning mounted O no_controls q told s (first-spared q H e.spared e.first) in
            let no : passes_extents meaning mounted O q ≡ false = rw (told.2) e.fails in
            rw (away, no) refl

  pub agrees-fails : {q : Piece} → Legal meaning mounted H → Facts H → Fails meaning mounted H q → (u : IdleUnit D) →
      Each (Told O H) (arrivals H) → Agrees meaning mounted O H u (arrivals H) →
      Agrees meaning mounted O (Post q.name no_status 0 ExtentViolated ∷ H) u (arrivals H)
  unfolding waiting
  agrees-fails {q} l f e u k a =
      let told : Tells O H q = (Each-at (Told O H) (waiting H) 0 q
      (Each-filter (Told O H) (λ r. not (has_started r.name H || is_posted r.name H)) (arrivals H) k) e.first).1 in
      first-turn meaning mounted O (was-post q.name no_status 0 ExtentViolated)
      (λ u rs s w apart later. turn-fails u rs told l f e s apart later)
      e.idle u (arrivals H) e.first f.5 a

  -- THE POST OF A DOOMED REQUEST, in its turn or before it
  module _ {n : Name} (e : Dooms meaning mounted H n) where
    -- a request of the name is turned away
    is-away : (u : IdleUnit D) (r : Piece) → ((d : ℕ) → flag d H ≡ u.in_error d) → same n r.name ≡ true → Told O H r →
        Away meaning mounted O (Post n no_status 0 Purged ∷ H) u r
    is-away u r flags s known = record {
      away = rw (flags r.dcb) at (sym (doomed-is O r H known.1 no_controls) ∙ doomed_r);
      was = record {
        done = or_left (same n r.name) (is_posted r.name H) s;
        value = subst (λ (x : Name). value_of x (posted meaning mounted (Post n no_status 0 Purged ∷ H))
            ≡ Some (value_at meaning mounted n no_status 0 Purged H))
            n_is (value-post meaning mounted n no_status 0 Purged H e.legal e.waits.unposted)
            ∙ ap (λ m. Some (posted_value (request_named n H) no_status 0 Purged m)) e.issued
            ∙ ap (λ (q : Piece). Some (posted_value q no_status 0 Purged q.area)) r_is;
      };
    } where
      n_is : n ≡ r.name
      n_is = same-true n r.name s

      r_is : request_named n H ≡ r
      r_is = ap (λ (x : Name). request_named x H) n_is ∙ known.0.0

      doomed_r : is_doomed H r ≡ true
      doomed_r = subst (λ (q : Piece). is_doomed H q ≡ true) r_is e.dooms

    later-doomed : (u : IdleUnit D) → ((d : ℕ) → flag d H ≡ u.in_error d) → (r : Piece) → Told O H r →
        Later meaning mounted O H u r → Later meaning mounted O (Post n no_status 0 Purged ∷ H) u r
    later-doomed u flags r known (inl w) = elim (cases_Bool (same n r.name)) [
      | inl s ↦ inr (is-away u r flags s known)
      | inr s ↦ inl (record { unstarted = w.unstarted; unposted = rw s w.unposted })
    ]
    later-doomed u flags r known (inr a) = inr (record { away = a.away; was = was-post n no_status 0 Purged r _ a.was })

    rests-doomed : {u : IdleUnit D} → Rests meaning mounted H u → Rests meaning mounted (Post n no_status 0 Purged ∷ H) u
    unfolding attempts flag
    rests-doomed s = record {
      idle = active-post_waiting n (record { csw = no_status; sense = 0 }) Purged H e.waits.unstarted ∙ s.idle;
      equals = s.equals;
      flags = s.flags;
    }

    runs-doomed : {u : IdleUnit D} {r : Piece} → Runs meaning mounted O H u r →
        Runs meaning mounted O (Post n no_status 0 Purged ∷ H) u r
    unfolding attempts flag
    runs-doomed p = record {
      active = active-post_waiting n (record { csw = no_status; sense = 0 }) Purged H e.waits.unstarted ∙ p.active;
      flags = p.flags;
      left = p.left;
      number = p.number;
      eleven = p.eleven;
      started = p.started;
      begins = p.begins;
      commands = p.commands;
      fetched = p.fetched;
      few = p.few;
      equals = p.equals;
      serving = p.serving;
    }

    pub agrees-doomed : (u : IdleUnit D) (rs : List Piece) → Each (Told O H) rs → Agrees meaning mounted O H u rs →
        Agrees meaning mounted O (Post n no_status 0 Purged ∷ H) u rs
    agrees-doomed u [] k s = rests-doomed s
    agrees-doomed u (r ∷ rs) k (Was p a) =
        Was (was-post n no_status 0 Purged r _ p) (agrees-doomed (unit_after meaning mounted O u r) rs k.1 a)
    agrees-doomed u (r ∷ rs) k (Is p l) = Is (runs-doomed p) (each-both (later-doomed u p.flags) rs k.1 l)
    agrees-doomed u (r ∷ rs) k (Will s w l) =
        absorb meaning mounted O (r ∷ rs) (rests-doomed s)
        (later-doomed u s.flags r k.0 (inl w), each-both (later-doomed u s.flags) rs k.1 l)
