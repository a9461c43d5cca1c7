-- What dooms the requests that wait, over one entry more.
use Rattle.std.proofs.Common.{◌≡◌, ◌≤◌, ℕ, ◌+◌, Bool, true, false, not, ◌&&◌, ◌||◌, eqb, Option, Some, None, List, [], ◌∷◌, ◌++◌, length}
use Rattle.std.proofs.Common.{refl, ap, sym, ◌∙◌, subst, arith, inl, inr}
use Rattle.std.specs.Prelude.{is_some}
use Rattle.std.proofs.lemmas.Bool.{and_parts, cases_Bool, or_left, or_right}
use Rattle.std.proofs.lemmas.Grind.{common_steps}
use Rattle.std.specs.List.{filter}
use Rattle.io_images.specs.Codes.{is_error}
use Rattle.io_images.specs.declared.code.Code.{Code}
use Rattle.io_images.specs.declared.csw.Csw.{Csw}
use Rattle.request_piece.specs.declared.piece.Name.{Name}
use Rattle.request_piece.specs.declared.piece.Piece.{Piece}
use Rattle.request_piece.specs.declared.scope.Scope.{Scope}
use Rattle.unit_book.specs.Dcbs.{doomed, is_closed, is_doomed, is_open, opened_count}
unfoldable use Rattle.unit_book.specs.Dcbs.{flag}
use Rattle.unit_book.specs.Lists.{Each}
unfoldable use Rattle.unit_book.specs.Trace.{arrivals, waiting}
use Rattle.unit_book.specs.Trace.{has_arrived, has_started, is_posted, request_named, same}
use Rattle.unit_book.specs.declared.entry.Entry.{Entry}
use Rattle.unit_book.specs.declared.entry.Entry.TheVariants.{Opened, Arrive, Start, Ran, Halted, Purge, Close, Reset, Post}
use Rattle.io_images.specs.declared.extent.Extent.{Extent}
use Rattle.unit_book.specs.declared.dcb.ProcessingMethod.{ProcessingMethod}
use Rattle.unit_history.specs.Events.{entries_so_far}
use Rattle.unit_history.specs.Orderly.{ErrorFollows, IsAfter}
use Rattle.unit_book.specs.declared.entry.Mode.{Mode}
use Rattle.unit_book.proofs.Dooms.{doomed-start, filters-commute}
use Rattle.unit_book.proofs.Facts.{Each-behind, Each-filter, Each-weaker, waiting-post}
use Rattle.unit_book.proofs.Lists.{no_both, same-refl}
unfoldable use Rattle.unit_book.proofs.Lists.{without}
use Rattle.unit_history.specs.Causes.{ArrivedShut, DoomedAt, HasRelatedError, IsClose, IsDoom, IsPurge}
unfoldable use Rattle.unit_history.specs.Causes.{closed_by, flagged_by}
use Rattle.unit_history.specs.Dcbs.{arrival_cause}
use Rattle.unit_history.specs.declared.dcbs.DcbEntries.{DcbEntries}
use Rattle.unit_history.proofs.DcbLaws.{IsKnown, closed-by}
use Rattle.unit_history.specs.TraceStates.{DoomsBy}
use Rattle.unit_history.specs.declared.event.PostCause.{PostCause}
use Rattle.unit_history.specs.declared.event.PostCause.TheVariants.{Program, OutsideExtents}
use Rattle.unit_history.specs.declared.event.PostCause.TheVariants.{Purge as CausePurge, Close as CauseClose, NotOpen}
use Rattle.unit_history.specs.declared.event.PostCause.TheVariants.{RelatedError, Halt, NotTriedAgain, Unknown}

-- who waits had arrived
arrivals-arrived : (H : List Entry) → Each (λ r. has_arrived r.name H ≡ true) (arrivals H)
unfolding arrivals
arrivals-arrived [] = tt
arrivals-arrived (Arrive r ∷ H) =
    Each-behind (λ (q : Piece). has_arrived q.name (Arrive r ∷ H) ≡ true) (arrivals H) r
    (Each-weaker (λ (q : Piece). has_arrived q.name H ≡ true) (λ (q : Piece). has_arrived q.name (Arrive r ∷ H) ≡ true)
    (λ q a. or_right (same r.name q.name) (has_arrived q.name H) a) (arrivals H) (arrivals-arrived H))
    (or_left (same r.name r.name) (has_arrived r.name H) (same-refl r.name))
arrivals-arrived (_ ∷ H) = arrivals-arrived H

waiting-arrived : (H : List Entry) → Each (λ r. has_arrived r.name H ≡ true) (waiting H)
unfolding waiting
waiting-arrived H = Each-filter (λ r. has_arrived r.name H ≡ true) (λ r. not (has_started r.name H || is_posted r.name H)) (arrivals H) (arrivals-arrived H)

-- an entry that dooms nothing, and tells nothing of DCBs
abbrev pub IsMute : Entry → Type 0
IsMute (Start n) = Unit {0}
IsMute (Ran n j) = Unit {0}
IsMute (Halted n) = Unit {0}
IsMute (Post n csw sense code) = is_error code ≡ false
IsMute _ = ⊥

-- an entry more
abbrev at-later : (e : Entry) (H : List Entry) (r : Piece) (k : ℕ) → DoomedAt H r k → DoomedAt (e ∷ H) r k
at-later e H r k d = record {
  at = record { later = e ∷ d.at.later; entry = d.at.entry; earlier = d.at.earlier; parts = ap (λ x. e ∷ x) d.at.parts; number_is = d.at.number_is };
  arrived = d.arrived;
  spared = d.spared;
  is_after = d.is_after;
}

shut-later : (e : Entry) (H : List Entry) (r : Piece) (k : Option ℕ) → ArrivedShut H r k → ArrivedShut (e ∷ H) r k
shut-later e H r k d = record {
  arrival = record { later = e ∷ d.arrival.later; earlier = d.arrival.earlier; parts = ap (λ x. e ∷ x) d.arrival.parts };
  shut = d.shut;
  by = d.by;
}

error-later : (e : Entry) (H : List Entry) (r : Piece) (k : Option ℕ) → IsMute e → HasRelatedError H r k → HasRelatedError (e ∷ H) r k
unfolding flag flagged_by
error-later (Start n) H r k m d = record { related = d.related; opened = d.opened; flagged = d.flagged; by = d.by }
error-later (Ran n j) H r k m d = record { related = d.related; opened = d.opened; flagged = d.flagged; by = d.by }
error-later (Halted n) H r k m d = record { related = d.related; opened = d.opened; flagged = d.flagged; by = d.by }
error-later (Post n csw sense code) H r k m d = record { related = d.related; opened = d.opened; flagged = rw m d.flagged; by = rw m d.by }
error-later (Opened c i x) H r k m d = absurd m
error-later (Arrive q) H r k m d = absurd m
error-later (Purge s i) H r k m d = absurd m
error-later (Close c) H r k m d = absurd m
error-later (Reset c) H r k m d = absurd m

few-later : (room : ℕ) (e : Entry) (H : List Entry) → opened_count (e ∷ H) ≤ room → opened_count H ≤ room
few-later room (Opened c i x) H f = omega (arith, f)
few-later room (Arrive q) H f = f
few-later room (Start n) H f = f
few-later room (Ran n j) H f = f
few-later room (Halted n) H f = f
few-later room (Purge s i) H f = f
few-later room (Close c) H f = f
few-later room (Reset c) H f = f
few-later room (Post n csw sense code) H f = f

doom-later : (room : ℕ) (e : Entry) (H : List Entry) (c : PostCause) → IsMute e → (r : Piece) → IsDoom room H r c → IsDoom room (e ∷ H) r c
doom-later room e H Program m r d = absurd d
doom-later room e H OutsideExtents m r d = absurd d
doom-later room e H (CausePurge k) m r d = record { dooms = at-later e H r k d.dooms; is = d.is }
doom-later room e H (CauseClose k) m r d = record { dooms = at-later e H r k d.dooms; is = d.is }
doom-later room e H (NotOpen k) m r d = λ f. shut-later e H r k (d (few-later room e H f))
doom-later room e H (RelatedError k) m r d = λ f. error-later e H r k m (d (few-later room e H f))
doom-later room e H (Halt k) m r d = absurd d
doom-later room e H (NotTriedAgain k) m r d = absurd d
doom-later room e H Unknown m r d = absurd d

-- the same are doomed, or fewer
dooms-same : (room : ℕ) (e : Entry) (H : List Entry) (c : PostCause) → IsMute e → doomed (e ∷ H) ≡ doomed H → DoomsBy room H c →
    DoomsBy room (e ∷ H) c
dooms-same room e H c m s d =
    subst (Each (λ (r : Piece). IsDoom room (e ∷ H) r c)) (sym s)
    (Each-weaker (λ r. IsDoom room H r c) (λ r. IsDoom room (e ∷ H) r c) (doom-later room e H c m) (doomed H) d)

dooms-without : (n : Name) (room : ℕ) (e : Entry) (H : List Entry) (c : PostCause) → IsMute e → doomed (e ∷ H) ≡ without n (doomed H) →
    DoomsBy room H c →
    DoomsBy room (e ∷ H) c
unfolding without
dooms-without n room e H c m s d =
    subst (Each (λ (r : Piece). IsDoom room (e ∷ H) r c)) (sym s)
    (Each-filter (λ r. IsDoom room (e ∷ H) r c) (λ r. not (same n r.name)) (doomed H)
    (Each-weaker (λ r. IsDoom room H r c) (λ r. IsDoom room (e ∷ H) r c) (doom-later room e H c m) (doomed H) d))

pub dooms-none : (room : ℕ) (e : Entry) (H : List Entry) (c : PostCause) → doomed (e ∷ H) ≡ [] → DoomsBy room (e ∷ H) c
dooms-none room e H c s = subst (Each (λ (r : Piece). IsDoom room (e ∷ H) r c)) (sym s) tt

pub dooms-ran : (room : ℕ) (n : Name) (j : ℕ) (H : List Entry) (c : PostCause) → DoomsBy room H c → DoomsBy room (Ran n j ∷ H) c
unfolding waiting arrivals flag
dooms-ran room n j H c d = dooms-same room (Ran n j) H c tt refl d

pub dooms-halted : (room : ℕ) (n : Name) (H : List Entry) (c : PostCause) → DoomsBy room H c → DoomsBy room (Halted n ∷ H) c
unfolding waiting arrivals flag
dooms-halted room n H c d = dooms-same room (Halted n) H c tt refl d

pub dooms-start : (room : ℕ) (n : Name) (H : List Entry) (c : PostCause) → DoomsBy room H c → DoomsBy room (Start n ∷ H) c
dooms-start room n H c d = dooms-without n room (Start n) H c tt (doomed-start n H) d

doomed-quiet : (n : Name) (csw : Csw) (sense : ℕ) (code : Code) (H : List Entry) → is_error code ≡ false →
    doomed (Post n csw sense code ∷ H) ≡ without n (doomed H)
unfolding without flag
doomed-quiet n csw sense code H e = grind (arith, common_steps, waiting-post, filters-commute, e)

dooms-post : (room : ℕ) (n : Name) (csw : Csw) (sense : ℕ) (code : Code) (H : List Entry) (c : PostCause) → is_error code ≡ false →
    DoomsBy room H c → DoomsBy room (Post n csw sense code ∷ H) c
dooms-post room n csw sense code H c e d = dooms-without n room (Post n csw sense code) H c e (doomed-quiet n csw sense code H e) d

-- what an entry dooms, where nothing was doomed before
picked : (p q : Piece → Bool) (A P : Piece → Type 0) → ((r : Piece) → A r → p r ≡ false → q r ≡ true → P r) → (ws : List Piece) → Each A ws →
    filter p ws ≡ [] → Each P (filter q ws)
picked p q A P f [] a h = tt
picked p q A P f (w ∷ ws) a h = grind (arith, common_steps, picked p q A P f ws a.1, f w a.0)

pub dooms-purge : (room : ℕ) (s : Scope) (m : Mode) (H : List Entry) (k : ℕ) → doomed H ≡ [] → k ≡ length H + 1 →
    DoomsBy room (Purge s m ∷ H) (CausePurge k)
unfolding waiting arrivals flag
dooms-purge room s m H k none n =
    picked (is_doomed H) (is_doomed (Purge s m ∷ H)) (λ r. has_arrived r.name H ≡ true) (λ r. IsPurge (Purge s m ∷ H) r k) one (waiting H)
    (waiting-arrived H) none where
      one : (r : Piece) → has_arrived r.name H ≡ true → is_doomed H r ≡ false → is_doomed (Purge s m ∷ H) r ≡ true → IsPurge (Purge s m ∷ H) r k
      one r a u t = record {
        dooms = record {
          at = record { later = []; entry = Purge s m; earlier = H; parts = refl; number_is = n };
          arrived = a;
          spared = none;
          is_after = t;
        };
        is = grind (arith, common_steps, u, t);
      }

pub dooms-close : (room : ℕ) (d : ℕ) (H : List Entry) (k : ℕ) → doomed H ≡ [] → k ≡ length H + 1 → DoomsBy room (Close d ∷ H) (CauseClose k)
unfolding waiting arrivals flag
dooms-close room d H k none n =
    picked (is_doomed H) (is_doomed (Close d ∷ H)) (λ r. has_arrived r.name H ≡ true) (λ r. IsClose (Close d ∷ H) r k) one (waiting H)
    (waiting-arrived H) none where
      one : (r : Piece) → has_arrived r.name H ≡ true → is_doomed H r ≡ false → is_doomed (Close d ∷ H) r ≡ true → IsClose (Close d ∷ H) r k
      one r a u t = record {
        dooms = record {
          at = record { later = []; entry = Close d; earlier = H; parts = refl; number_is = n };
          arrived = a;
          spared = none;
          is_after = t;
        };
        is = grind (arith, common_steps, u, t);
      }

-- AN ARRIVAL

-- one more at the end
each-last : (P : Piece → Type 0) (q w : Piece → Bool) (r : Piece) → (q r ≡ true → P r) → (xs : List Piece) → Each P (filter q (filter w xs)) →
    Each P (filter q (filter w (xs ++ r ∷ [])))
each-last P q w r f [] a = grind (arith, common_steps, f)
each-last P q w r f (x ∷ xs) a = grind (arith, common_steps, each-last P q w r f xs)

module _ (room : ℕ) (r : Piece) (H : List Entry) where
  abbrev G : List Entry
  G = Arrive r ∷ H

  -- it dooms itself alone
  unpurged : is_doomed G r ≡ (not (is_open r.dcb H) || (r.related && flag r.dcb H))
  unfolding flag
  unpurged = let s = same-refl r.name in rw s (grind (arith, common_steps))

  spared-still : (q : Piece) → is_doomed H q ≡ false → is_doomed G q ≡ true → ⊥
  unfolding flag
  spared-still q u t = grind (arith, common_steps, u, t)

  -- its DCB is not open
  arrives-shut : (k : Option ℕ) → is_open r.dcb H ≡ false → closed_by r.dcb H ≡ k → ArrivedShut G r k
  arrives-shut k s b = record { arrival = record { later = []; earlier = H; parts = refl }; shut = s; by = b }

  -- its DCB is open
  arrives-related : (k : Option ℕ) → is_open r.dcb H ≡ true → is_doomed G r ≡ true → (flag r.dcb H ≡ true → flagged_by r.dcb H ≡ k) →
      HasRelatedError G r k
  unfolding flag flagged_by
  arrives-related k o t b =
      let both : (r.related && flag r.dcb H) ≡ true = rw o at (sym unpurged ∙ t) in
      let parts = and_parts r.related (flag r.dcb H) both in
      record { related = parts.0; opened = o; flagged = parts.1; by = b parts.1 }

  open-known : (x : DcbEntries) → IsKnown r.dcb H (Some x) → x.closed ≡ None → is_open r.dcb H ≡ true
  open-known x k e =
      let c : is_closed r.dcb H ≡ false = closed-by r.dcb H ∙ ap is_some (k.1 ∙ e) in
      rw (k.0, c) refl

  shut-known : (x : DcbEntries) (j : ℕ) → IsKnown r.dcb H (Some x) → x.closed ≡ Some j → is_open r.dcb H ≡ false
  shut-known x j k e =
      let c : is_closed r.dcb H ≡ true = closed-by r.dcb H ∙ ap is_some (k.1 ∙ e) in
      rw (k.0, c) refl

  abbrev Known : Option DcbEntries → Type 0
  Known o = opened_count H ≤ room → IsKnown r.dcb H o

  by_closed : (x : DcbEntries) (o : Option ℕ) → x.closed ≡ o → Known (Some x) → is_doomed G r ≡ true →
      IsDoom room G r (arrival_cause (Some x))
  by_closed x None e k t = rw e (λ f. arrives-related x.flagged (open-known x (k f) e) t (k f).2)
  by_closed x (Some j) e k t = rw e (λ f. arrives-shut (Some j) (shut-known x j (k f) e) ((k f).1 ∙ e))

  by_known : (o : Option DcbEntries) → Known o → is_doomed G r ≡ true → IsDoom room G r (arrival_cause o)
  by_known None k t = λ f. let w = k f in arrives-shut None (rw w.0 refl) w.1
  by_known (Some x) k t = by_closed x x.closed refl k t

  pub dooms-arrive : (o : Option DcbEntries) → doomed H ≡ [] → Known o → DoomsBy room G (arrival_cause o)
  unfolding waiting arrivals
  dooms-arrive o none k =
      each-last (λ q. IsDoom room G q (arrival_cause o)) (is_doomed G) (λ q. not (has_started q.name H || is_posted q.name H)) r (by_known o k)
      (arrivals H)
      (picked (is_doomed H) (is_doomed G) (λ q. has_arrived q.name H ≡ true) (λ q. IsDoom room G q (arrival_cause o))
      (λ q a u t. absurd (spared-still q u t)) (waiting H) (waiting-arrived H) none)

-- a post
module _ (room : ℕ) (n : Name) (csw : Csw) (sense : ℕ) (code : Code) (H : List Entry) (k : ℕ) (error : is_error code ≡ true) (number : k ≡ length H + 1) where
  errs : (r : Piece) → is_doomed H r ≡ false → is_doomed (Post n csw sense code ∷ H) r ≡ true →
      (b : Bool) → (is_error code && (request_named n H).related && eqb (request_named n H).dcb r.dcb) ≡ b →
      HasRelatedError (Post n csw sense code ∷ H) r (Some k)
  unfolding flag flagged_by
  errs r u t true e = record {
    related = grind (arith, common_steps, u, t);
    opened = grind (arith, common_steps, u);
    flagged = rw e refl;
    by = rw e (ap Some (sym number));
  }
  errs r u t false e = no_both (is_doomed H r) (rw e at t) u

  pub dooms-error : doomed H ≡ [] → DoomsBy room (Post n csw sense code ∷ H) (RelatedError (Some k))
  unfolding without
  dooms-error none =
      let G = Post n csw sense code ∷ H in
      let spared : filter (is_doomed H) (waiting G) ≡ [] =
      ap (filter (is_doomed H)) (waiting-post n csw sense code H)
      ∙ filters-commute (is_doomed H) (λ r. not (same n r.name)) (waiting H) ∙ ap (without n) none in
      picked (is_doomed H) (is_doomed G) (λ r. has_arrived r.name G ≡ true) (λ r. IsDoom room G r (RelatedError (Some k)))
      (λ r a u t few. errs r u t _ refl) (waiting G) (waiting-arrived G) spared

pub dooms-posted : (room : ℕ) (n : Name) (csw : Csw) (sense : ℕ) (code : Code) (H : List Entry) (k : ℕ) (old new : PostCause) →
    k ≡ length H + 1 →
    (is_error code ≡ true → ErrorFollows n H) → (is_error code ≡ true → new ≡ RelatedError (Some k)) → (is_error code ≡ false → new ≡ old) →
    DoomsBy room H old → DoomsBy room (Post n csw sense code ∷ H) new
dooms-posted room n csw sense code H k old new number f error other d =
    elim (cases_Bool (is_error code)) [
      | inl e ↦ subst (DoomsBy room (Post n csw sense code ∷ H)) (sym (error e)) (dooms-error room n csw sense code H k e number (f e).spared)
      | inr e ↦ subst (DoomsBy room (Post n csw sense code ∷ H)) (sym (other e)) (dooms-post room n csw sense code H old e d)
    ]

-- the other entries doom nothing
pub dooms-other : (room : ℕ) (e : Entry) (H : List Entry) (c : PostCause) →
    ((d : ℕ) (m : ProcessingMethod) (x : List Extent) → e ≡ Opened d m x → ⊥) → ((r : Piece) → e ≡ Arrive r → ⊥) →
    ((s : Scope) (m : Mode) → e ≡ Purge s m → ⊥) → ((d : ℕ) → e ≡ Close d → ⊥) →
    ((n : Name) (csw : Csw) (sense : ℕ) (code : Code) → e ≡ Post n csw sense code → ⊥) →
    IsAfter e H → DoomsBy room H c → DoomsBy room (e ∷ H) c
dooms-other room (Opened d m x) H c o a p k q f w = absurd (o d m x refl)
dooms-other room (Arrive r) H c o a p k q f w = absurd (a r refl)
dooms-other room (Start n) H c o a p k q f w = dooms-start room n H c w
dooms-other room (Ran n j) H c o a p k q f w = dooms-ran room n j H c w
dooms-other room (Halted n) H c o a p k q f w = dooms-halted room n H c w
dooms-other room (Purge s m) H c o a p k q f w = absurd (p s m refl)
dooms-other room (Close d) H c o a p k q f w = absurd (k d refl)
dooms-other room (Reset d) H c o a p k q f w = dooms-none room (Reset d) H c f
dooms-other room (Post n csw sense code) H c o a p k q f w = absurd (q n csw sense code refl)

-- nothing is doomed before the first entry
pub dooms-before : (room : ℕ) (es : List Entry) (c : PostCause) → DoomsBy room (entries_so_far es 0) c
unfolding waiting arrivals
dooms-before room [] c = tt
dooms-before room (e ∷ es) c = tt
