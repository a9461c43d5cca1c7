-- Nothing doomed is started.
use Rattle.unit_book.proofs.Names.{◌≡◌, ℕ, ◌⊎◌, Bool, true, false, not, Some, List, [], ◌∷◌, ◌++◌, refl, sym, ap, ◌∙◌, eqb, inl, inr, subst}
use Rattle.unit_book.proofs.Names.{cases_Bool, or_left, or_right, eq-eqb, list_any, slice_get, Meaning, Name, Piece, Entry, Arrive, Start}
use Rattle.unit_book.proofs.Names.{Halted, Close, same, starts, arrivals, waiting, active, has_arrived, has_started, is_posted, is_covered}
use Rattle.unit_book.proofs.Names.{request_named, doomed, is_doomed, is_closed, flag, Legal, StartFits, First, Again, arith}
use Rattle.unit_book.specs.Laws.{NoDoomedStarts, is_of_name}
use Rattle.unit_book.proofs.Lists.{all-at, same-true, no_both, without}
use Rattle.unit_book.proofs.Facts.{active-is, fits-freely}
use Rattle.unit_book.proofs.LegalFacts.{Comes, SoundTrace, facts, legal-tail, first-named, first-request, request-named}
use Rattle.unit_book.proofs.Dooms.{doomed-purged, due-doomed, none-pass}
use Rattle.unit_book.proofs.TraceLaws.{any-later, not-of, start-unposted}
use Rattle.std.proofs.lemmas.Grind.{common_steps}

-- one of the name is doomed
abbrev dooms : Name → List Entry → Bool
dooms n H = list_any (λ q. same q.name n) (doomed H)

-- those of another name stay
any-without : (m n : Name) → same m n ≡ false → (rs : List Piece) → list_any (λ (q : Piece). same q.name n) rs ≡ true →
    list_any (λ (q : Piece). same q.name n) (without m rs) ≡ true
unfolding without
any-without m n s [] h = h
any-without m n s (r ∷ rs) h = grind (arith, common_steps, any-without m n s rs)

-- a Start that is not of the name does not start it
starts-of : (n : Name) (e : Entry) → is_of_name n e ≡ false → starts n e ≡ false
starts-of n v1 h = grind (arith, common_steps)

-- WHAT WAS DOOMED stays so or is posted, and is not started
abbrev Gone : Name → List Entry → Type 0
Gone n G = (dooms n G ≡ true) ⊎ (is_posted n G ≡ true)

dooms-halted : (n m : Name) (G : List Entry) → dooms n (Halted m ∷ G) ≡ dooms n G
unfolding waiting arrivals flag
dooms-halted n m G = refl

abbrev Covered : Piece → List Entry → Type 0
Covered r G = (has_started r.name G ≡ true) × (request_named r.name G ≡ r) × (is_covered r G ≡ true)

-- A FIRST START is of a request that is not doomed
first-spared : (r : Piece) (H : List Entry) → doomed H ≡ [] → slice_get (waiting H) 0 ≡ Some r → not (is_doomed H r) ≡ true
first-spared r H d s = all-at (λ q. not (is_doomed H q)) (waiting H) 0 r (none-pass (is_doomed H) (waiting H) d) s

closed-later : (d : ℕ) (later earlier : List Entry) → is_closed d (later ++ Close d ∷ earlier) ≡ true
closed-later d later earlier = any-later _ later (Close d ∷ earlier) (or_left (eqb d d) (is_closed d earlier) (eq-eqb d d refl))

module _ {D : Type 0} (meaning : Meaning D) (mounted : D) where
  gone-step : {e : Entry} {G : List Entry} (n : Name) → Comes meaning mounted e G → Gone n G → (starts n e ≡ false) × Gone n (e ∷ G)
  gone-step {e} {G} n c (inr p) = (starts-of n e (not-of meaning mounted n e c p), inr (or_right _ (is_posted n G) p))
  gone-step {e} {G} n c (inl d) = grind (arith, common_steps, dooms-halted, doomed-purged, any-without, due-doomed)

  gone : (n : Name) (later earlier : List Entry) → Legal meaning mounted (later ++ earlier) → dooms n earlier ≡ true →
      (list_any (starts n) later ≡ false) × Gone n (later ++ earlier)
  unfolding Legal
  gone n [] earlier l d = (refl, inl d)
  gone n (e ∷ later) earlier l d =
      let ih = gone n later earlier l.1 d in
      grind (arith, common_steps, gone-step n (record { earlier = l.1; fits = l.0 }) ih.1)

  -- WHAT WAS STARTED AND COVERED stays covered, and is not started
  covered-start : {m : Name} {G : List Entry} (r : Piece) → Comes meaning mounted (Start m) G → Covered r G → same m r.name ≡ false
  covered-start {m} {G} r c k =
      elim (cases_Bool (same m r.name)) [
        | inl e ↦ absurd (none (fits-freely meaning mounted (Start m) G refl c.fits).1 (same-true m r.name e))
        | inr e ↦ e
      ] where
        none : StartFits meaning mounted m G → m ≡ r.name → ⊥
        none (First s) i =
            no_both (has_started r.name G) k.0 (first-named G (facts meaning mounted G c.earlier) s.first (s.name ∙ i)).unstarted
        none (Again s) i = grind (arith, common_steps)

  -- the request of a name stays the one that arrived
  request-stays : (n : Name) (e : Entry) {G : List Entry} → Comes meaning mounted e G → has_arrived n G ≡ true →
      request_named n (e ∷ G) ≡ request_named n G
  unfolding request_named
  request-stays n (Arrive r) {G} c a = grind (arith, common_steps, facts)
  request-stays n _ c a = refl

  covered-step : (r : Piece) (e : Entry) {G : List Entry} → Comes meaning mounted e G → Covered r G →
      (starts r.name e ≡ false) × Covered r (e ∷ G)
  covered-step r e {G} c k =
      let q = request-stays r.name e c ((facts meaning mounted G c.earlier).0 r.name k.0) ∙ k.1 in
      let s = unstarted e c in
      (s, (or_right (starts r.name e) (has_started r.name G) k.0, q, rw s (or_right _ (is_covered r G) k.2))) where
        unstarted : (e : Entry) → Comes meaning mounted e G → starts r.name e ≡ false
        unstarted v0 i = grind (arith, common_steps, covered-start)

  covered-stays : (r : Piece) (later earlier : List Entry) → Legal meaning mounted (later ++ earlier) → Covered r earlier →
      (list_any (starts r.name) later ≡ false) × Covered r (later ++ earlier)
  unfolding Legal
  covered-stays r [] earlier l c = (refl, c)
  covered-stays r (e ∷ later) earlier l c =
      let ih = covered-stays r later earlier l.1 c in
      grind (arith, common_steps, covered-step r e (record { earlier = l.1; fits = l.0 }) ih.1)

  of-covered : (n : Name) (later earlier : List Entry) → Legal meaning mounted (later ++ earlier) →
      has_started n earlier ≡ true → is_covered (request_named n earlier) earlier ≡ true → list_any (starts n) later ≡ false
  of-covered n later earlier l s c =
      let f = facts meaning mounted earlier (legal-tail meaning mounted later earlier l) in
      let r = request_named n earlier in
      let q : r.name ≡ n = request-named n earlier (f.0 n s) in
      let k : Covered r earlier = (rw q s, ap (λ (x : Name). request_named x earlier) q, c) in
      subst (λ (x : Name). list_any (starts x) later ≡ false) q (covered-stays r later earlier l k).0

  not-first : {n : Name} {H : List Entry} → StartFits meaning mounted n H → SoundTrace meaning mounted H →
      is_doomed H (request_named n H) ≡ true → has_started n H ≡ true
  not-first {H = H} (First s) sound b = grind (arith, common_steps, first-request, facts, first-spared, due-doomed)
  not-first {n} {H} (Again s) sound b = (active-is n H s.active).0

  doomed-starts : (n : Name) (H : List Entry) → Legal meaning mounted (Start n ∷ H) → is_doomed H (request_named n H) ≡ true →
      has_started n H ≡ true
  unfolding Legal
  doomed-starts n H l b = grind (arith, common_steps, fits-freely, not-first)

  of-closed : (n : Name) (H : List Entry) → Legal meaning mounted (Start n ∷ H) → is_closed (request_named n H).dcb H ≡ true →
      has_started n H ≡ true
  of-closed n H l c = grind (arith, common_steps, doomed-starts)

  of-flagged : (n : Name) (H : List Entry) → Legal meaning mounted (Start n ∷ H) → (request_named n H).related ≡ true →
      flag (request_named n H).dcb H ≡ true → has_started n H ≡ true
  of-flagged n H l a b = grind (arith, common_steps, doomed-starts)

  -- WHAT IS STARTED AFTER A CLOSE was started before it
  before-close : (n : Name) {d : ℕ} (later earlier : List Entry) → Legal meaning mounted (later ++ Close d ∷ earlier) →
      (request_named n (later ++ Close d ∷ earlier)).dcb ≡ d → has_started n (later ++ Close d ∷ earlier) ≡ true →
      has_started n earlier ≡ true
  unfolding Legal request_named
  before-close n [] earlier l q s = s
  before-close n {d} (e ∷ later) earlier l q s =
      let G = later ++ Close d ∷ earlier in
      let f = facts meaning mounted G l.1 in
      let h = started_before e l s q in
      let c : Comes meaning mounted e G = record { earlier = l.1; fits = l.0 } in
      let stays = request-stays n e c (f.0 n h) in
      before-close n later earlier l.1 (sym (ap (λ (r : Piece). r.dcb) stays) ∙ q) h where
        own : (m : Name) → Legal meaning mounted (Start m ∷ later ++ Close d ∷ earlier) → m ≡ n →
            (request_named m (later ++ Close d ∷ earlier)).dcb ≡ d → has_started m (later ++ Close d ∷ earlier) ≡ true
        own m k i b = of-closed m (later ++ Close d ∷ earlier) k (rw b (closed-later d later earlier))

        started_before : (e : Entry) → Legal meaning mounted (e ∷ later ++ Close d ∷ earlier) →
            has_started n (e ∷ later ++ Close d ∷ earlier) ≡ true →
            (request_named n (e ∷ later ++ Close d ∷ earlier)).dcb ≡ d → has_started n (later ++ Close d ∷ earlier) ≡ true
        started_before v0 k t b = grind (arith, common_steps, same-true, own)

  of-closing : (n : Name) (d : ℕ) (later earlier : List Entry) → Legal meaning mounted (Start n ∷ later ++ Close d ∷ earlier) →
      (request_named n (later ++ Close d ∷ earlier)).dcb ≡ d → active earlier ≡ Some n
  unfolding Legal
  of-closing n d later earlier l q =
      let G = later ++ Close d ∷ earlier in
      let f = facts meaning mounted G l.1 in
      let s = of-closed n G l (rw q (closed-later d later earlier)) in
      let b = before-close n later earlier l.1 q s in
      let u = start-unposted meaning mounted n G f (fits-freely meaning mounted (Start n) G refl l.0).1 in
      let old = legal-tail meaning mounted later (Close d ∷ earlier) l.1 in
      (facts meaning mounted earlier old.1).3 n b (unposted_before u) where
        unposted_before : is_posted n (later ++ Close d ∷ earlier) ≡ false → is_posted n earlier ≡ false
        unposted_before u = grind (arith, common_steps, any-later)

  of-doomed : (r : Piece) (later earlier : List Entry) → Legal meaning mounted (later ++ earlier) → dooms r.name earlier ≡ true →
      list_any (starts r.name) later ≡ false
  of-doomed r later earlier l d = (gone r.name later earlier l d).0

pub no-doomed-starts : {D : Type 0} (meaning : Meaning D) → NoDoomedStarts meaning
no-doomed-starts meaning = record {
  of_doomed = of-doomed meaning;
  of_covered = of-covered meaning;
  of_closed = of-closed meaning;
  of_closing = of-closing meaning;
  of_flagged = of-flagged meaning;
}
