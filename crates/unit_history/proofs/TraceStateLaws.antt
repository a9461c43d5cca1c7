-- The active request, over one entry more.
use Rattle.std.proofs.Common.{◌≡◌, ◌≤◌, ℕ, suc, ◌+◌, Bool, true, false, ◌||◌, ◌&&◌, Option, Some, None, List, [], ◌∷◌, length, refl}
use Rattle.std.proofs.Common.{Bor, add-one, sym, ap, ◌∙◌, arith, subst, inl, inr, reverse}
use Rattle.std.proofs.lemmas.Bool.{or_right}
use Rattle.std.proofs.lemmas.Grind.{common_steps}
use Rattle.std.specs.Prelude.{option_map, slice_get}
use Rattle.io_images.specs.declared.code.Code.{Code}
use Rattle.io_images.specs.declared.csw.Csw.{Csw}
use Rattle.request_piece.specs.declared.piece.Name.{Name}
use Rattle.request_piece.specs.declared.piece.Piece.{Piece}
use Rattle.request_piece.specs.declared.scope.Scope.{Scope}
use Rattle.request_piece.specs.Scope.{covers}
use Rattle.unit_book.specs.declared.entry.Entry.{Entry}
use Rattle.unit_book.specs.declared.entry.Entry.TheVariants.{Opened, Arrive, Start, Ran, Halted, Purge, Close, Reset, Post}
use Rattle.unit_book.specs.declared.entry.Mode.{Mode}
use Rattle.unit_book.specs.Trace.{is_covered, arrives, has_arrived, is_halt, is_halted, purges_halting, same, starts, starts_of}
unfoldable use Rattle.unit_book.specs.Trace.{active, request_named, started}
unfoldable use Rattle.unit_book.specs.Legal.{Legal}
use Rattle.unit_book.proofs.Facts.{new-name}
use Rattle.unit_book.proofs.LegalFacts.{request-named}
use Rattle.unit_book.proofs.Lists.{no_both, same-is, same-refl, same-sym}
use Rattle.unit_book.proofs.Starts.{no-starts}
use Rattle.std.proofs.lemmas.List.{length-reverse, length-take-le}
use Rattle.std.proofs.Common.{take}
use Rattle.unit_history.specs.Events.{entries_so_far}
use Rattle.unit_history.specs.Orderly.{Doomed, Ended, Failed, IsAfter, PostFollows, StartFollows, Stopped}
use Rattle.unit_history.specs.TraceStates.{ActiveIs, HaltingIs, IfNamed, IsActive, UnlessNamed, active_halted, halting_after, purged_by}
use Rattle.std.proofs.Common.{◌≢◌}
use Rattle.io_images.specs.declared.code.Code.TheVariants.{Ended as CodeEnded, PermanentError, ExtentViolated, Purged}
use Rattle.unit_history.specs.declared.event.PostCause.{PostCause}
use Rattle.unit_history.specs.declared.event.PostCause.TheVariants.{Program, OutsideExtents}
use Rattle.unit_history.specs.declared.event.PostCause.TheVariants.{Purge as CausePurge, Close as CauseClose, NotOpen}
use Rattle.unit_history.specs.declared.event.PostCause.TheVariants.{RelatedError, Halt as CauseHalt, NotTriedAgain, Unknown}
use Rattle.unit_book.specs.Lists.{Each}
use Rattle.unit_history.specs.TraceStates.{DoomsBy}
use Rattle.unit_history.specs.Causes.{IsCauseOfPost, IsDoom, WasDoomed, ended_cause, is_doom, waiting_cause}
use Rattle.unit_history.specs.Orderly.{IsPostedNext}
use Rattle.unit_history.proofs.DcbLaws.{knows-other}
use Rattle.unit_history.proofs.DoomCauses.{dooms-ran}
use Rattle.unit_history.specs.Dcbs.{KnowsDcbs, room_of}
use Rattle.unit_history.specs.declared.dcbs.Dcbs.{Dcbs}
use Rattle.unit_history.specs.declared.trace_state.StartedRequest.{StartedRequest}
use Rattle.unit_history.specs.declared.trace_state.TraceState.{TraceState}
use Rattle.std.proofs.Common.{drop, length-drop, zero}
use Rattle.std.proofs.lemmas.Option.{slice_get_within}
use Rattle.unit_history.proofs.ReplayBefore.{before-next}
use Rattle.unit_history.proofs.TurnLaws.{rest-at, turns-end, turns-few, turns-more, turns-none}
use Rattle.unit_history.specs.Events.{turn, turns}
use Rattle.unit_history.specs.Orderly.{Orderly}
use Rattle.unit_history.specs.TraceStates.{Knows, before, room_of_state}

-- an entry that starts no name leaves the halting purge
halting-later : (r : Piece) (e : Entry) (H : List Entry) (o : Option ℕ) → starts r.name e ≡ false → purges_halting r e ≡ false →
    HaltingIs r H o → HaltingIs r (e ∷ H) o
halting-later r e H None s p h = rw (s, p) h
halting-later r e H (Some k) s p h = record {
  at = record { later = e ∷ h.at.later; entry = h.at.entry; earlier = h.at.earlier; parts = ap (λ x. e ∷ x) h.at.parts; number_is = h.at.number_is };
  purges = h.purges;
  first = h.first;
  since_start = rw s h.since_start;
}

-- a later purge does too
halting-kept : (r : Piece) (e : Entry) (H : List Entry) (k : ℕ) → starts r.name e ≡ false → HaltingIs r H (Some k) → HaltingIs r (e ∷ H) (Some k)
halting-kept r e H k s h = record {
  at = record { later = e ∷ h.at.later; entry = h.at.entry; earlier = h.at.earlier; parts = ap (λ x. e ∷ x) h.at.parts; number_is = h.at.number_is };
  purges = h.purges;
  first = h.first;
  since_start = rw s h.since_start;
}

-- the first such purge
halting-new : (r : Piece) (e : Entry) (H : List Entry) (k : ℕ) → purges_halting r e ≡ true → k ≡ length H + 1 → HaltingIs r H None →
    HaltingIs r (e ∷ H) (Some k)
halting-new r e H k p n h = record {
  at = record { later = []; entry = e; earlier = H; parts = refl; number_is = n };
  purges = p;
  first = h;
  since_start = refl;
}

-- A START
pub started-is : (n : Name) (H : List Entry) (a : StartedRequest) → StartFollows n H → a.name ≡ n →
    a.issued.now ≡ request_named n H → a.starts ≡ starts_of n H + 1 → a.is_halted ≡ false → a.halting ≡ None →
    IsActive (Start n ∷ H) a
unfolding request_named
started-is n H a w e i s h o =
    let self = same-refl n in
    let named : a.issued.now.name ≡ n = ap (λ (r : Piece). r.name) i ∙ request-named n H w.arrived in
    let there : same n a.issued.now.name ≡ true = same-is n a.issued.now.name (sym named) in
    record {
      is = w.after ∙ ap Some (sym e);
      arrived = subst (λ (x : Name). has_arrived x (Start n ∷ H) ≡ true) (sym e) w.arrived;
      request = i ∙ ap (λ (x : Name). request_named x H) (sym e);
      named = named ∙ sym e;
      starts = subst (λ (x : Name). a.starts ≡ starts_of x (Start n ∷ H)) (sym e) (rw self (s ∙ add-one _));
      halted = subst (λ (x : Name). a.is_halted ≡ is_halted x (Start n ∷ H)) (sym e) (rw self h);
      halting = rw (o, there) refl;
    }

-- a first start
pub starts-none : (n : Name) (H : List Entry) (o : Option StartedRequest) → StartFollows n H → ActiveIs H o → IfNamed n o None →
    starts_of n H ≡ 0
starts-none n H o w k f = elim w.whom [ inl a ↦ other o k f a | inr u ↦ no-starts n H u.1 ] where
  other : (o : Option StartedRequest) → ActiveIs H o → IfNamed n o None → active H ≡ Some n → starts_of n H ≡ 0
  other None k f a = let e : None ≡ Some n = sym k ∙ a in absurd cc
  other (Some b) k f a = let e : Some b.name ≡ Some n = sym k.is ∙ a in no_both (same b.name n) (same-is b.name n cc) f

-- a further start is of the request that is active
pub issued-again : (n : Name) (H : List Entry) (o : Option StartedRequest) (a : StartedRequest) → ActiveIs H o → IfNamed n o (Some a) →
    a.issued.now ≡ request_named n H
issued-again n H o a k f =
    let w : IsActive H a = subst (ActiveIs H) f.0 k in
    w.request ∙ ap (λ (x : Name). request_named x H) f.1

-- ANOTHER ENTRY, that does not start the request, and leaves it active
pub moved-is : (e : Entry) (H : List Entry) (a b : StartedRequest) → IsActive H a → active (e ∷ H) ≡ active H → starts a.name e ≡ false →
    request_named a.name (e ∷ H) ≡ request_named a.name H → b.name ≡ a.name → b.issued ≡ a.issued → b.starts ≡ a.starts →
    b.is_halted ≡ is_halted a.name (e ∷ H) → HaltingIs a.issued.now (e ∷ H) b.halting → IsActive (e ∷ H) b
moved-is e H a b k act s r n i c h o = record {
  is = act ∙ k.is ∙ ap Some (sym n);
  arrived = subst (λ (x : Name). has_arrived x (e ∷ H) ≡ true) (sym n) (or_right (arrives a.name e) (has_arrived a.name H) k.arrived);
  request = ap (λ (x : Bor Piece). x.now) i ∙ k.request ∙ sym r ∙ ap (λ (x : Name). request_named x (e ∷ H)) (sym n);
  named = ap (λ (x : Bor Piece). x.now.name) i ∙ k.named ∙ sym n;
  starts = subst (λ (x : Name). b.starts ≡ starts_of x (e ∷ H)) (sym n) (rw s (c ∙ k.starts));
  halted = subst (λ (x : Name). b.is_halted ≡ is_halted x (e ∷ H)) (sym n) h;
  halting = rw i o;
}

-- an entry of none of these kinds
abbrev pub IsQuiet : Entry → Type 0
IsQuiet (Start n) = ⊥
IsQuiet (Halted n) = ⊥
IsQuiet (Purge s m) = ⊥
IsQuiet (Post n csw sense code) = ⊥
IsQuiet _ = Unit {0}

pub quiet-is : (e : Entry) → ((n : Name) → e ≡ Start n → ⊥) → ((n : Name) → e ≡ Halted n → ⊥) →
    ((s : Scope) (m : Mode) → e ≡ Purge s m → ⊥) →
    ((n : Name) (csw : Csw) (sense : ℕ) (code : Code) → e ≡ Post n csw sense code → ⊥) → IsQuiet e
quiet-is (Opened d i x) s h p q = tt
quiet-is (Arrive r) s h p q = tt
quiet-is (Start n) s h p q = absurd (s n refl)
quiet-is (Ran n j) s h p q = tt
quiet-is (Halted n) s h p q = absurd (h n refl)
quiet-is (Purge d m) s h p q = absurd (p d m refl)
quiet-is (Close d) s h p q = tt
quiet-is (Reset d) s h p q = tt
quiet-is (Post n c k j) s h p q = absurd (q n c k j refl)

pub quiet-active : (e : Entry) (H : List Entry) (o : Option StartedRequest) → IsQuiet e → IsAfter e H → ActiveIs H o → ActiveIs (e ∷ H) o
unfolding active started request_named
quiet-active (Opened d i x) H None q f k = k
quiet-active (Opened d i x) H (Some a) q f k = moved-is (Opened d i x) H a a k refl refl refl refl refl refl k.halted
    (halting-later a.issued.now (Opened d i x) H a.halting refl refl k.halting)
quiet-active (Arrive r) H None q f k = k
quiet-active (Arrive r) H (Some a) q f k =
    let s = new-name r a.name H f.0 k.arrived in
    moved-is (Arrive r) H a a k refl refl (rw s refl) refl refl refl k.halted
    (halting-later a.issued.now (Arrive r) H a.halting refl refl k.halting)
quiet-active (Start n) H o q f k = absurd q
quiet-active (Ran n j) H None q f k = k
quiet-active (Ran n j) H (Some a) q f k = moved-is (Ran n j) H a a k refl refl refl refl refl refl k.halted
    (halting-later a.issued.now (Ran n j) H a.halting refl refl k.halting)
quiet-active (Halted n) H o q f k = absurd q
quiet-active (Purge s m) H o q f k = absurd q
quiet-active (Close d) H None q f k = k
quiet-active (Close d) H (Some a) q f k = moved-is (Close d) H a a k refl refl refl refl refl refl k.halted
    (halting-later a.issued.now (Close d) H a.halting refl refl k.halting)
quiet-active (Reset d) H None q f k = k
quiet-active (Reset d) H (Some a) q f k = moved-is (Reset d) H a a k refl refl refl refl refl refl k.halted
    (halting-later a.issued.now (Reset d) H a.halting refl refl k.halting)
quiet-active (Post n c s j) H o q f k = absurd q

-- A HALT
pub halted-active : (n : Name) (H : List Entry) (o : Option StartedRequest) → ActiveIs H o →
    ActiveIs (Halted n ∷ H) (option_map (active_halted n) o)
unfolding active started request_named
halted-active n H None k = k
halted-active n H (Some a) k =
    moved-is (Halted n) H a (active_halted n a) k refl refl refl refl refl refl (rw k.halted (turned (is_halted a.name H)))
    (halting-later a.issued.now (Halted n) H a.halting refl refl k.halting) where
      swapped : same a.name n ≡ same n a.name
      swapped = grind (arith, common_steps, same-sym)

      turned : (h : Bool) → (h || same a.name n) ≡ (same n a.name || h)
      turned h = rw swapped (grind (arith, common_steps))

-- A PURGE
purge-halting : (r : Piece) (s : Scope) (m : Mode) (H : List Entry) (o : Option ℕ) (k : ℕ) → k ≡ length H + 1 → HaltingIs r H o →
    HaltingIs r (Purge s m ∷ H) (halting_after o (covers s r && is_halt m) k)
purge-halting r s m H None k e h = by_test (covers s r && is_halt m) refl where
  by_test : (b : Bool) → b ≡ (covers s r && is_halt m) → HaltingIs r (Purge s m ∷ H) (halting_after None b k)
  by_test true t = halting-new r (Purge s m) H k (sym t) e h
  by_test false t = halting-later r (Purge s m) H None refl (sym t) h
purge-halting r s m H (Some j) k e h = halting-kept r (Purge s m) H j refl h

pub purged-active : (s : Scope) (m : Mode) (k : ℕ) (H : List Entry) (o : Option StartedRequest) → k ≡ length H + 1 → ActiveIs H o →
    ActiveIs (Purge s m ∷ H) (option_map (purged_by s m k) o)
unfolding active started request_named
purged-active s m k H None e h = h
purged-active s m k H (Some a) e h =
    moved-is (Purge s m) H a (purged_by s m k a) h refl refl refl refl refl refl h.halted
    (purge-halting a.issued.now s m H a.halting k e h.halting)

some-is : {a b : StartedRequest} → Some a ≡ Some b → a ≡ b
some-is e = cc

-- A POST
module _ (n : Name) (csw : Csw) (sense : ℕ) (code : Code) (H : List Entry)
    (f : PostFollows n code H (active (Post n csw sense code ∷ H))) where
  abbrev G : List Entry
  G = Post n csw sense code ∷ H

  gone : active H ≡ Some n → active G ≡ None
  gone a = elim f [
    | Ended b e h c ↦ e
    | Stopped b e h c ↦ e
    | Failed b e h w c ↦ e
    | Doomed b e h x d c ↦ absurd (b a)
  ]

  stays : (active H ≡ Some n → ⊥) → active G ≡ active H
  stays a = elim f [
    | Ended b e h c ↦ absurd (a b)
    | Stopped b e h c ↦ absurd (a b)
    | Failed b e h w c ↦ e ∙ sym b
    | Doomed b e h x d c ↦ e
  ]

  pub posted-active : (o found : Option StartedRequest) → ActiveIs H o → UnlessNamed n o found → ActiveIs G found
  unfolding request_named
  posted-active None None k u = stays (λ a. let e : None ≡ Some n = sym k ∙ a in absurd cc) ∙ k
  posted-active (Some b) None k u = gone (k.is ∙ ap Some u)
  posted-active None (Some a) k u = absurd (let e = u.0 in absurd cc)
  posted-active (Some b) (Some a) k u =
      let e : b ≡ a = some-is u.0 in
      let w : IsActive H a = subst (IsActive H) e k in
      let other : active H ≡ Some n → ⊥ = λ (x : active H ≡ Some n). no_both (same a.name n)
      (same-is a.name n (let y : Some a.name ≡ Some n = sym w.is ∙ x in cc)) u.1 in
      moved-is (Post n csw sense code) H a a w (stays other) refl refl refl refl refl w.halted
      (halting-later a.issued.now (Post n csw sense code) H a.halting refl refl w.halting)

-- how many entries are before a place
pub before-length : (es : List Entry) (done : ℕ) → done ≤ length es → length (entries_so_far es done) ≡ done
before-length es done few = length-reverse (take done es) ∙ length-take-le done es few

-- ONE ENTRY MORE
pub knows-next : (p q : TraceState) (e : Entry) → Knows p → slice_get p.trace.now p.done ≡ Some e → q.trace.now ≡ p.trace.now →
    q.done ≡ p.done + 1 → room_of_state q ≡ room_of_state p → is_doom q.cause ≡ true → DoomsBy (room_of_state p) (e ∷ before p) q.cause →
    KnowsDcbs (e ∷ before p) q.dcbs.now → ActiveIs (e ∷ before p) q.active → Knows q
knows-next p q e k here t d r m w b a =
    let more : before q ≡ e ∷ before p =
    ap (λ (x : List Entry). entries_so_far x q.done) t ∙ ap (entries_so_far p.trace.now) d ∙ before-next p.trace.now p.done e here in
    let within = slice_get_within p.trace.now p.done e here in
    record {
      orderly = subst (λ (x : List Entry). Orderly (reverse x)) (sym t) k.orderly;
      few = omega (arith, within, d, ap length t);
      active_is = subst (λ (x : List Entry). ActiveIs x q.active) (sym more) a;
      doom = m;
      dooms = subst (λ (x : ℕ). DoomsBy x (before q) q.cause) (sym r) (subst (λ (x : List Entry). DoomsBy (room_of_state p) x q.cause) (sym more) w);
      dcbs = subst (λ (x : List Entry). KnowsDcbs x q.dcbs.now) (sym more) b;
    }

-- TURNS
at-first : (xs : List Entry) (i : ℕ) → slice_get xs i ≡ slice_get (drop i xs) 0
at-first [] zero = refl
at-first [] (suc i) = refl
at-first (x ∷ xs) zero = refl
at-first (x ∷ xs) (suc i) = at-first xs i

-- what holds at a place, but for its own number
abbrev pub HoldsAt : ℕ → Option StartedRequest → PostCause → Dcbs → List Entry → Type 0
HoldsAt room o c table H = ActiveIs H o × DoomsBy room H c × KnowsDcbs H table

turn-active : (n : Name) (j : ℕ) (e : Entry) (H : List Entry) (room : ℕ) (o : Option StartedRequest) (c : PostCause) (table : Dcbs) →
    turn n e ≡ Some j →
    HoldsAt room o c table H → HoldsAt room o c table (e ∷ H)
turn-active n j (Opened d i x) H room o c table t a = absurd cc
turn-active n j (Arrive r) H room o c table t a = absurd cc
turn-active n j (Start m) H room o c table t a = absurd cc
turn-active n j (Ran m i) H room o c table t a =
    (quiet-active (Ran m i) H o tt tt a.0, dooms-ran room m i H c a.1, knows-other (Ran m i) H table tt a.2)
turn-active n j (Halted m) H room o c table t a = absurd cc
turn-active n j (Purge s m) H room o c table t a = absurd cc
turn-active n j (Close d) H room o c table t a = absurd cc
turn-active n j (Reset d) H room o c table t a = absurd cc
turn-active n j (Post m k s i) H room o c table t a = absurd cc

module _ (n : Name) (es : List Entry) (room : ℕ) (o : Option StartedRequest) (cause : PostCause) (table : Dcbs) where
  abbrev Holds : ℕ → Type 0
  Holds at = HoldsAt room o cause table (entries_so_far es at)

  -- one turn, and what holds after more of them
  turned : (k done : ℕ) →
      (k ≤ length (turns n (drop (done + 1) es)) → Holds (done + 1) → Holds (done + 1 + k)) →
      suc k ≤ length (turns n (drop done es)) → Holds done → Holds (done + suc k)
  turned k done more h a = by_rest (drop done es) refl (at-first es done) h where
    by_turn : (e : Entry) (rest : List Entry) (t : Option ℕ) → drop done es ≡ e ∷ rest → slice_get es done ≡ Some e → turn n e ≡ t →
        suc k ≤ length (turns n (e ∷ rest)) → Holds (done + suc k)
    by_turn e rest None d g t h = absurd (let z = turns-end n e rest t in omega (arith, rw z at h))
    by_turn e rest (Some j) d g t h =
        let z = turns-more n e rest j t in
        let r : rest ≡ drop (done + 1) es = (let x : e ∷ rest ≡ e ∷ drop (done + 1) es = sym d ∙ rest-at es done e g in cc) in
        let few : k ≤ length (turns n (drop (done + 1) es)) = rw (← r) (omega (arith, rw z at h)) in
        let next = subst (HoldsAt room o cause table) (sym (before-next es done e g))
        (turn-active n j e (entries_so_far es done) room o cause table t a) in
        let i : done + 1 + k ≡ done + suc k = omega arith in
        subst Holds i (more few next)

    by_rest : (xs : List Entry) → drop done es ≡ xs → slice_get es done ≡ slice_get (drop done es) 0 → suc k ≤ length (turns n (drop done es)) →
        Holds (done + suc k)
    by_rest [] d g h = absurd (let z = ap (turns n) d ∙ turns-none n in omega (arith, rw z at h))
    by_rest (e ∷ rest) d g h = by_turn e rest (turn n e) d (g ∙ ap (λ (x : List Entry). slice_get x 0) d) refl (rw d at h)

  active-turns : (k done : ℕ) → k ≤ length (turns n (drop done es)) → Holds done → Holds (done + k)
  active-turns zero done h a = subst Holds (omega arith) a
  active-turns (suc k) done h a = turned k done (λ x y. active-turns k (done + 1) x y) h a

pub knows-turns : (p q : TraceState) (n : Name) (count : ℕ) → Knows p → count ≡ length (turns n (drop p.done p.trace.now)) →
    q.trace.now ≡ p.trace.now → q.active ≡ p.active → q.done ≡ p.done + count → q.cause ≡ p.cause → q.dcbs.now ≡ p.dcbs.now → Knows q
knows-turns p q n count k c t b d m s =
    let few = turns-few n (drop p.done p.trace.now) in
    let l = length-drop p.done p.trace.now in
    let pf = k.few in
    let a = active-turns n p.trace.now (room_of_state p) p.active p.cause p.dcbs.now count p.done (omega (arith, c)) (k.active_is, k.dooms, k.dcbs) in
    let place : entries_so_far p.trace.now (p.done + count) ≡ before q = ap (entries_so_far p.trace.now) (sym d) ∙ ap (λ (x : List Entry). entries_so_far x q.done) (sym t) in
    let w : HoldsAt (room_of_state p) p.active p.cause p.dcbs.now (before q) = subst (HoldsAt (room_of_state p) p.active p.cause p.dcbs.now) place a in
    record {
      orderly = subst (λ (x : List Entry). Orderly (reverse x)) (sym t) k.orderly;
      few = omega (arith, few, l, pf, c, d, ap length t);
      active_is = subst (ActiveIs (before q)) (sym b) w.0;
      doom = ap is_doom m ∙ k.doom;
      dooms = subst (λ (x : ℕ). DoomsBy x (before q) q.cause) (sym (ap room_of s)) (subst (DoomsBy (room_of_state p) (before q)) (sym m) w.1);
      dcbs = subst (KnowsDcbs (before q)) (sym s) w.2;
    }

-- nothing is active before the first entry
pub none-before : (es : List Entry) → active (entries_so_far es 0) ≡ None
unfolding active started
none-before [] = refl
none-before (e ∷ es) = refl

-- CAUSES
code-cause : (room : ℕ) (H : List Entry) (n : Name) (code : Code) (halted : Bool) (o : Option ℕ) → active H ≡ Some n → is_halted n H ≡ false →
    code ≢ Purged → IsCauseOfPost room H n code (ended_cause code halted o)
code-cause room H n CodeEnded halted o a h c = record { active = a; halted = h; code_is = c }
code-cause room H n PermanentError halted o a h c = record { active = a; halted = h; code_is = c }
code-cause room H n ExtentViolated halted o a h c = record { active = a; halted = h; code_is = c }
code-cause room H n Purged halted o a h c = absurd (c refl)

halt-cause : (room : ℕ) (H : List Entry) (n : Name) (halted : Bool) (o : Option ℕ) → active H ≡ Some n → is_halted n H ≡ halted →
    is_covered (request_named n H) H ≡ true → HaltingIs (request_named n H) H o → IsCauseOfPost room H n Purged (ended_cause Purged halted o)
halt-cause room H n halted None a h c o = no_both (is_covered (request_named n H) H) c o
halt-cause room H n true (Some k) a h c o = record { active = a; halted = h; code_is = refl; purge = o }
halt-cause room H n false (Some k) a h c o = record { active = a; halted = h; code_is = refl; purge = o }

-- why the active request is posted
pub cause-active : (room : ℕ) (H : List Entry) (n : Name) (code : Code) (o : Option StartedRequest) (a : StartedRequest) → ActiveIs H o →
    IfNamed n o (Some a) →
    IsPostedNext n code H → IsCauseOfPost room H n code (ended_cause code a.is_halted a.halting)
cause-active room H n code o a k f p = by_post p.follows where
  w : IsActive H a
  w = subst (ActiveIs H) f.0 k

  is : active H ≡ Some n
  is = w.is ∙ ap Some f.1

  by_post : PostFollows n code H p.after → IsCauseOfPost room H n code (ended_cause code a.is_halted a.halting)
  by_post (Ended b e h c) = code-cause room H n code a.is_halted a.halting b h c
  by_post (Stopped b e h c) =
      let r : a.issued.now ≡ request_named n H = w.request ∙ ap (λ (x : Name). request_named x H) f.1 in
      let halted : is_halted n H ≡ a.is_halted = ap (λ (x : Name). is_halted x H) (sym f.1) ∙ sym w.halted in
      let t = halt-cause room H n a.is_halted a.halting b halted h (subst (λ (x : Piece). HaltingIs x H a.halting) r w.halting) in
      subst (λ (x : Code). IsCauseOfPost room H n x (ended_cause x a.is_halted a.halting)) (sym c) t
  by_post (Failed b e h v c) = absurd (let x : None ≡ Some n = sym b ∙ is in cc)
  by_post (Doomed b e h x d c) = absurd (b is)

doom-cause : (room : ℕ) (H : List Entry) (n : Name) (code : Code) (cause : PostCause) → is_doom cause ≡ true →
    WasDoomed room cause H n code → IsCauseOfPost room H n code cause
doom-cause room H n code Program d w = absurd cc
doom-cause room H n code OutsideExtents d w = absurd cc
doom-cause room H n code (CausePurge k) d w = w
doom-cause room H n code (CauseClose k) d w = w
doom-cause room H n code (NotOpen k) d w = w
doom-cause room H n code (RelatedError k) d w = w
doom-cause room H n code (CauseHalt k) d w = absurd cc
doom-cause room H n code (NotTriedAgain k) d w = absurd cc
doom-cause room H n code Unknown d w = w

-- why another is
pub cause-waiting : (room : ℕ) (H : List Entry) (n : Name) (code : Code) (o : Option StartedRequest) (doom : PostCause) → ActiveIs H o →
    IfNamed n o None →
    is_doom doom ≡ true → DoomsBy room H doom → IsPostedNext n code H → IsCauseOfPost room H n code (waiting_cause code doom)
cause-waiting room H n code o doom k f d all p = by_post p.follows where
  other : (o : Option StartedRequest) → ActiveIs H o → IfNamed n o None → active H ≡ Some n → ⊥
  other None k f a = let e : None ≡ Some n = sym k ∙ a in absurd cc
  other (Some b) k f a = let e : Some b.name ≡ Some n = sym k.is ∙ a in no_both (same b.name n) (same-is b.name n cc) f

  by_post : PostFollows n code H p.after → IsCauseOfPost room H n code (waiting_cause code doom)
  by_post (Ended b e h c) = absurd (other o k f b)
  by_post (Stopped b e h c) = absurd (other o k f b)
  by_post (Failed b e h v c) =
      subst (λ (x : Code). IsCauseOfPost room H n x (waiting_cause x doom)) (sym c) (record { none = b; first = v; code_is = refl })
  by_post (Doomed b e h rest first c) =
      let each : Each (λ r. IsDoom room H r doom) (request_named n H ∷ rest) = subst (Each (λ (r : Piece). IsDoom room H r doom)) first all in
      subst (λ (x : Code). IsCauseOfPost room H n x (waiting_cause x doom)) (sym c)
      (doom-cause room H n Purged doom d (record { inactive = b; doom = each.0; code_is = refl }))
