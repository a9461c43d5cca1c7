-- Laws of command steps.
use Rattle.std.proofs.Common.{◌≡◌, ℕ, zero, suc, ◌+◌, ◌-◌, ◌<◌, ◌≤◌, List, ◌∷◌, refl, ap, arith, ◌∙◌, sym, Bool, true, false, min, inl, inr}
use Rattle.std.proofs.Common.{add-zero, add-suc, add-one}
use Rattle.std.proofs.Math.Dec.{ltb}
use Rattle.std.proofs.lemmas.Bool.{cases_Bool, ltb-true, ltb-false}
use Rattle.io_area.specs.Storage.{Storage}
use Rattle.device_port.specs.Moves.{offered}
use Rattle.device_port.specs.Meaning.{Meaning, effect}
use Rattle.device_port.specs.declared.answer.Acted.{Acted}
use Rattle.ccw_programs.specs.declared.fetch.Link.{Link}
use Rattle.ccw_programs.specs.declared.fetch.Fetch.{Fetch}
use Rattle.ccw_programs.specs.declared.fetch.Fetch.TheVariants.{Refused, Transfer, More, Last}
use Rattle.ccw_programs.specs.declared.context.State.{State}
use Rattle.ccw_programs.specs.declared.context.State.TheVariants.{Running, Ended}
use Rattle.ccw_programs.specs.declared.ending.Ending.{Ending}
use Rattle.ccw_programs.specs.declared.rule.Rule.{Rule}
use Rattle.ccw_programs.specs.Links.{Fetched, Whole, Broken, after_ccw, chain_by, chain_within, fetch_at, rule_at, chain, total_count}
use Rattle.ccw_programs.specs.Areas.{areas, Areas, Parts, Bad}
use Rattle.ccw_programs.specs.Place.{Place}
use Rattle.ccw_programs.specs.Step.{Program, step, step_from, step_on_chain, step_on_areas, after, steps_within, length_of, is_running}
use Rattle.ccw_programs.specs.Step.{placed, goes_on, first_of, last_of, sub_status, ending, moved}

-- a whole chain ends with more fetches than it began with, and with 4,096 at most
pub record Later (left fetches : ℕ) : Type 0 where
  pub more : 4096 - left < fetches
  pub few : fetches ≤ 4096

behind-whole : (l : Link) (f : Fetched) (links : List Link) (n : ℕ) → after_ccw l f ≡ Whole links n → (ks : List Link) × (f ≡ Whole ks n)
behind-whole l (Whole ks m) links n h = (ks, ap (Whole ks) (whole-fetches (l ∷ ks) links m n h)) where
  whole-fetches : (ls ms : List Link) (i j : ℕ) → Whole ls i ≡ Whole ms j → i ≡ j
  whole-fetches ls ms i j e = cc
behind-whole l (Broken before refusal) links n h = absurd cc

less : (left n : ℕ) → Later left n → Later (suc left) n
less left n l = record { more = omega (arith, l.more); few = l.few }

chain_by-later : (left place at n : ℕ) (links : List Link) (rest : Bool → ℕ → ℕ → Fetched) → suc left ≤ 4096 →
    ((may : Bool) (next to : ℕ) (ks : List Link) → rest may next to ≡ Whole ks n → Later left n) →
    (f : Fetch) (rule : Rule) → chain_by f rule at place (4096 - left) rest ≡ Whole links n → Later (suc left) n
chain_by-later left place at n links rest b more Refused rule e = absurd cc
chain_by-later left place at n links rest b more (Transfer to) rule e = less left n (more false place to links e)
chain_by-later left place at n links rest b more (More ccw) rule e =
    let r = behind-whole _ _ links n e in less left n (more true (suc place) (at + 8) r.0 r.1)
chain_by-later left place at n links rest b more (Last ccw) rule e = let k : 4096 - left ≡ n =
    cc in record { more = omega arith; few = omega arith }

chain_within-later : (left : ℕ) (m : Storage) (may : Bool) (place at : ℕ) (links : List Link) (n : ℕ) → left ≤ 4096 →
    chain_within m left may place at ≡ Whole links n → Later left n
unfolding chain_within
chain_within-later zero m may place at links n b h = absurd cc
chain_within-later (suc left) m may place at links n b h =
    chain_by-later left place at n links (λ may' next to. chain_within m left may' next to) (omega arith)
    (λ may' next to ks e. chain_within-later left m may' next to ks n (omega arith) e) (fetch_at m may place at) (rule_at m may place at) h

pub chain-later : (m : Storage) (at fetches : ℕ) (links : List Link) (n : ℕ) → fetches ≤ 4096 → chain m at fetches ≡ Whole links n →
    (fetches < n) × (n ≤ 4096)
chain-later m at fetches links n b h =
    let l = chain_within-later (4096 - fetches) m _ 0 at links n (omega arith) h in (omega (arith, l.more), l.few)

-- a place that goes on has made its fetches
placed-running : (place : Place) (last : Link) (fetches : ℕ) (acted : Acted) (end : Ending) (sub : ℕ) →
    is_running (placed place last fetches acted end sub).state ≡ true → (placed place last fetches acted end sub).fetched ≡ fetches
placed-running place last fetches acted end sub h = by_test (goes_on last acted.unit.0 sub) refl where
  by_test : (b : Bool) → b ≡ goes_on last acted.unit.0 sub → (placed place last fetches acted end sub).fetched ≡ fetches
  by_test true e = rw (← e) refl
  by_test false e = absurd (no (rw (← e) at h)) where
    no : false ≡ true → ⊥
    no k = cc

module _ {D : Type 0} (meaning : Meaning D) where
  -- a step of a program that has ended
  pub step-ended : (p : Program D) → is_running p.place.state ≡ false → step meaning p ≡ p
  unfolding step
  step-ended p h = by_state p.place.state refl where
    by_state : (s : State) → s ≡ p.place.state → step_from meaning p p.place.state ≡ p
    by_state Running e = absurd (no (rw (← e) at h)) where
      no : true ≡ false → ⊥
      no k = cc
    by_state (Ended csw sense) e = rw (← e) refl

  pub after-ended : (k : ℕ) (p : Program D) → is_running p.place.state ≡ false → after meaning k p ≡ p
  unfolding after
  after-ended zero p h = refl
  after-ended (suc k) p h = ap (step meaning) (after-ended k p h) ∙ step-ended p h

  -- BURSTS COMPOSE: steps after steps are as many steps together
  pub after-add : (j k : ℕ) (p : Program D) → after meaning (j + k) p ≡ after meaning k (after meaning j p)
  unfolding after
  after-add j zero p = rw (add-zero) refl
  after-add j (suc k) p = rw (add-suc) (ap (step meaning) (after-add j k p))

  pub after-first : (k : ℕ) (p : Program D) → after meaning (suc k) p ≡ after meaning k (step meaning p)
  unfolding after
  after-first zero p = refl
  after-first (suc k) p = ap (step meaning) (after-first k p)

  -- a program goes on from there with more fetches than f, and 4,096 at most
  abbrev pub GoesLater : ℕ → Program D → Type 0
  GoesLater f q = is_running q.place.state ≡ true → (f < q.place.fetched) × (q.place.fetched ≤ 4096)

  areas-later : (p : Program D) (links : List Link) (n f : ℕ) → f < n → n ≤ 4096 → (a : Areas) →
      GoesLater f (step_on_areas meaning p links n a)
  areas-later p links n f lt le (Bad refusal) h = absurd cc
  areas-later p links n f lt le (Parts parts) h =
      let flow = meaning.flow p.device (first_of links).ccw.command in
      let acted = (effect meaning p.device (first_of links).ccw.command parts p.area).acted in
      let end = ending links (moved links acted) in
      let e : (step_on_areas meaning p links n (Parts parts)).place.fetched ≡ n =
      placed-running p.place (last_of links) n acted end (sub_status flow (first_of links) (total_count links) acted end.link) h in
      (omega arith, omega arith)

  fetched-later : (p : Program D) (f : ℕ) (c : Fetched) → ((links : List Link) (n : ℕ) → c ≡ Whole links n → (f < n) × (n ≤ 4096)) →
      GoesLater f (step_on_chain meaning p c)
  fetched-later p f (Broken before refusal) k h = absurd cc
  fetched-later p f (Whole links n) k h = let b = k links n refl in areas-later p links n f b.0 b.1 _ h

  -- a step of a program that goes on fetches a CCW
  pub step-later : (p : Program D) → p.place.fetched ≤ 4096 → is_running p.place.state ≡ true → GoesLater p.place.fetched (step meaning p)
  unfolding step
  step-later p b r h = by_state p.place.state r h where
    by_state : (s : State) → is_running s ≡ true → GoesLater p.place.fetched (step_from meaning p s)
    by_state Running e k = fetched-later p p.place.fetched _ (λ links n c. chain-later p.area p.place.next p.place.fetched links n b c) k
    by_state (Ended csw sense) e k = absurd cc

  -- one step of the length
  pub steps_within-running : (k : ℕ) (p : Program D) → is_running p.place.state ≡ true →
      steps_within meaning (suc k) p ≡ suc (steps_within meaning k (step meaning p))
  unfolding steps_within
  steps_within-running k p h = rw h refl

  steps_within-ended : (k : ℕ) (p : Program D) → is_running p.place.state ≡ false → steps_within meaning k p ≡ 0
  unfolding steps_within
  steps_within-ended zero p h = refl
  steps_within-ended (suc k) p h = rw h refl

  -- one more command of a burst
  module _ (start p q : Program D) (done : ℕ) (stands : p ≡ after meaning done start) (runs : is_running p.place.state ≡ true)
      (counted : length_of meaning start ≡ done + steps_within meaning (4097 - done) p)
      (low : done ≤ p.place.fetched) (bound : p.place.fetched ≤ 4096) (next : q ≡ step meaning p) where
    pub next-stands : q ≡ after meaning (done + 1) start
    unfolding after
    next-stands = rw add-one (next ∙ ap (step meaning) stands)

    pub next-counted : length_of meaning start ≡ done + 1 + steps_within meaning (4097 - (done + 1)) q
    next-counted =
        let e : 4097 - done ≡ suc (4097 - (done + 1)) = omega arith in
        let f : steps_within meaning (4097 - done) p ≡ suc (steps_within meaning (4097 - (done + 1)) q) =
        rw (e, next) (steps_within-running (4097 - (done + 1)) p runs) in
        counted ∙ omega (arith, f)

    pub next-ended : is_running q.place.state ≡ false → length_of meaning start ≡ done + 1
    next-ended h = next-counted ∙ omega (arith, steps_within-ended (4097 - (done + 1)) q h)

    pub next-low : is_running q.place.state ≡ true → done + 1 ≤ q.place.fetched
    next-low h =
        let g : GoesLater p.place.fetched q = rw next (step-later p bound runs) in
        omega (arith, (g h).0)

  zero-after : (p : Program D) → after meaning 0 p ≡ p
  unfolding after
  zero-after p = refl

  -- HOW LONG a program is: at its length it has ended
  length-step : (k : ℕ) (p : Program D) (running : Bool) → running ≡ is_running p.place.state →
      (is_running p.place.state ≡ true →
      is_running (after meaning (steps_within meaning k (step meaning p)) (step meaning p)).place.state ≡ false) →
      is_running (after meaning (steps_within meaning (suc k) p) p).place.state ≡ false
  length-step k p true e rest =
      rw (steps_within-running k p (sym e), after-first (steps_within meaning k (step meaning p)) p) (rest (sym e))
  length-step k p false e rest = rw (steps_within-ended (suc k) p (sym e), zero-after p) (sym e)

  ended-within : (k : ℕ) (p : Program D) → 4097 ≤ p.place.fetched + k → p.place.fetched ≤ 4096 →
      is_running (after meaning (steps_within meaning k p) p).place.state ≡ false
  ended-within zero p h b = absurd (omega arith)
  ended-within (suc k) p h b = length-step k p (is_running p.place.state) refl
      (λ r. by_next (is_running (step meaning p).place.state) refl r (λ h' b'. ended-within k (step meaning p) h' b')) where
        by_next : (b : Bool) → b ≡ is_running (step meaning p).place.state → is_running p.place.state ≡ true →
            (4097 ≤ (step meaning p).place.fetched + k → (step meaning p).place.fetched ≤ 4096 →
            is_running (after meaning (steps_within meaning k (step meaning p)) (step meaning p)).place.state ≡ false) →
            is_running (after meaning (steps_within meaning k (step meaning p)) (step meaning p)).place.state ≡ false
        by_next false e r rest = rw (after-ended (steps_within meaning k (step meaning p)) (step meaning p) (sym e)) (sym e)
        by_next true e r rest = let l = step-later p b r (sym e) in let more : p.place.fetched < (step meaning p).place.fetched =
            l.0 in rest (omega arith) l.1

  pub length-ends : (p : Program D) → p.place.fetched ≤ 4096 → is_running (after meaning (length_of meaning p) p).place.state ≡ false
  length-ends p b = ended-within 4097 p (omega arith) b

  steps_within-zero : (p : Program D) → steps_within meaning 0 p ≡ 0
  unfolding steps_within
  steps_within-zero p = refl

  pub length-few : (k : ℕ) (p : Program D) → steps_within meaning k p ≤ k
  length-few zero p = omega (arith, steps_within-zero p)
  length-few (suc k) p = by_state (is_running p.place.state) refl (length-few k (step meaning p)) where
    by_state : (b : Bool) → b ≡ is_running p.place.state → steps_within meaning k (step meaning p) ≤ k →
        steps_within meaning (suc k) p ≤ suc k
    by_state true e r = rw (steps_within-running k p (sym e)) (omega arith)
    by_state false e r = rw (steps_within-ended (suc k) p (sym e)) (omega arith)

  -- it has a step at least, if it runs
  pub length-some : (p : Program D) → is_running p.place.state ≡ true → 1 ≤ length_of meaning p
  length-some p h = omega (arith, steps_within-running 4096 p h)

  -- before its length it runs
  pub runs-before : (k j : ℕ) (p : Program D) → j < steps_within meaning k p → is_running (after meaning j p).place.state ≡ true
  runs-before zero j p h = absurd (omega (arith, steps_within-zero p))
  runs-before (suc k) zero p h = by_state (is_running p.place.state) refl where
    by_state : (b : Bool) → b ≡ is_running p.place.state → is_running (after meaning 0 p).place.state ≡ true
    by_state true e = rw (zero-after p) (sym e)
    by_state false e = let z = steps_within-ended (suc k) p (sym e) in absurd (omega arith)
  runs-before (suc k) (suc j) p h = by_state (is_running p.place.state) refl (λ l. runs-before k j (step meaning p) l) where
    by_state : (b : Bool) → b ≡ is_running p.place.state →
        (j < steps_within meaning k (step meaning p) → is_running (after meaning j (step meaning p)).place.state ≡ true) →
        is_running (after meaning (suc j) p).place.state ≡ true
    by_state true e rest = let r = steps_within-running k p (sym e) in rw (after-first j p) (rest (omega arith))
    by_state false e rest = let z = steps_within-ended (suc k) p (sym e) in absurd (omega arith)

  -- the length is the number of steps before which it runs and after which it has ended
  pub length-is : (k n : ℕ) (p : Program D) → n ≤ k → ((j : ℕ) → j < n → is_running (after meaning j p).place.state ≡ true) →
      is_running (after meaning n p).place.state ≡ false → steps_within meaning k p ≡ n
  length-is k zero p h before ends = steps_within-ended k p (rw zero-after at ends)
  length-is zero (suc n) p h before ends = absurd (omega arith)
  length-is (suc k) (suc n) p h before ends =
      steps_within-running k p (rw zero-after at (before 0 (omega arith)))
      ∙ ap suc (length-is k n (step meaning p) (omega arith) (λ j l. rw after-first at (before (suc j) (omega arith)))
      (rw after-first at ends))

  -- WHAT IS LEFT of the length after some steps
  pub length-after : (c : ℕ) (p : Program D) → p.place.fetched ≤ 4096 → c ≤ length_of meaning p →
      length_of meaning (after meaning c p) ≡ length_of meaning p - c
  length-after c p b h =
      let few = length-few 4097 p in
      length-is 4097 (length_of meaning p - c) (after meaning c p) (omega arith)
      (λ j l. rw (← after-add c j p) (runs-before 4097 (c + j) p (omega arith)))
      (let e : c + (length_of meaning p - c) ≡ length_of meaning p = omega arith in rw (← after-add c _ p, e) (length-ends p b))

  -- a program that has ended stays as it is, so more steps add nothing
  pub ended-stays : (start p q : Program D) (a c n : ℕ) → p ≡ after meaning a start → q ≡ after meaning c p →
      is_running q.place.state ≡ false → a + c ≤ n →
      q ≡ after meaning n start
  ended-stays start p q a c n hp hq h le =
      let e : a + c + (n - (a + c)) ≡ n = omega arith in
      let f : after meaning (a + c) start ≡ q = after-add a c start ∙ rw (← hp, ← hq) refl in
      sym (rw (← e, after-add (a + c) (n - (a + c)) start, f) (after-ended (n - (a + c)) q h))

  pub after-more : (start : Program D) {p q : Program D} (a c n : ℕ) → p ≡ after meaning a start → q ≡ after meaning c p → n ≡ a + c →
      q ≡ after meaning n start
  after-more start {p} {q} a c n hp hq e = rw (e, after-add a c start, ← hp) hq

  -- it runs only before its length
  pub running-before : (j : ℕ) (p : Program D) → p.place.fetched ≤ 4096 → is_running (after meaning j p).place.state ≡ true →
      j < length_of meaning p
  running-before j p b h =
      elim (cases_Bool (ltb j (length_of meaning p))) [
        | inl e ↦ ltb-true j (length_of meaning p) e
        | inr e ↦
            let n = length_of meaning p in
            let le : n ≤ j = ltb-false j n e in
            let k : n + (j - n) ≡ j = omega arith in
            let stays : after meaning j p ≡ after meaning n p =
            rw (← k) (after-add n (j - n) p ∙ after-ended (j - n) (after meaning n p) (length-ends p b)) in
            let over = rw stays at h in
            let ends = length-ends p b in
            absurd cc
      ]

  -- A BURST of a program that runs after some steps: the steps of both, up to the length
  module _ (start : Program D) {p q : Program D} (a size c : ℕ) (bound : start.place.fetched ≤ 4096) (stands : p ≡ after meaning a start)
      (runs : is_running p.place.state ≡ true)
      (burst : q ≡ after meaning c p) (most : c ≡ min size (length_of meaning p)) where
    pub bursts-count : a + c ≡ min (a + size) (length_of meaning start)
    bursts-count =
        let before : a < length_of meaning start = running-before a start bound (rw (← stands) runs) in
        let left : length_of meaning p ≡ length_of meaning start - a = rw stands (length-after a start bound (omega arith)) in
        omega (arith, before, left, most)

    pub bursts-few : a + c ≤ 4097
    bursts-few = omega (arith, bursts-count, length-few 4097 start)

    -- it has ended at the length
    pub bursts-ended : is_running q.place.state ≡ false → a + c ≡ length_of meaning start
    bursts-ended h =
        let n = length_of meaning start in
        let count = bursts-count in
        elim (cases_Bool (ltb (a + c) n)) [
          | inl e ↦
              let there = runs-before 4097 (a + c) start (ltb-true (a + c) n e) in
              let q_is : q ≡ after meaning (a + c) start = burst ∙ ap (after meaning c) stands ∙ sym (after-add a c start) in
              let goes = rw (← q_is) at there in
              absurd cc
          | inr e ↦ let le : n ≤ a + c = ltb-false (a + c) n e in omega (arith, count, le)
        ]

  -- what no command changes of a device stays over every program
  module _ {X : Type 0} (f : D → X) (keeps : (d : D) (command : ℕ) (bytes : List ℕ) → f (meaning.act d command bytes).device ≡ f d) where
    stays-areas : (p : Program D) (links : List Link) (n : ℕ) (a : Areas) → f (step_on_areas meaning p links n a).device ≡ f p.device
    stays-areas p links n (Bad refusal) = refl
    stays-areas p links n (Parts parts) =
        keeps p.device (first_of links).ccw.command (offered (meaning.flow p.device (first_of links).ccw.command) p.area parts)

    stays-chain : (p : Program D) (c : Fetched) → f (step_on_chain meaning p c).device ≡ f p.device
    stays-chain p (Broken before refusal) = refl
    stays-chain p (Whole links n) = stays-areas p links n (areas (meaning.flow p.device (first_of links).ccw.command) p.area links)

    stays-from : (p : Program D) (s : State) → f (step_from meaning p s).device ≡ f p.device
    stays-from p Running = stays-chain p (chain p.area p.place.next p.place.fetched)
    stays-from p (Ended csw sense) = refl

    pub device-stays : (k : ℕ) (p : Program D) → f (after meaning k p).device ≡ f p.device
    unfolding after step
    device-stays zero p = refl
    device-stays (suc k) p = stays-from (after meaning k p) (after meaning k p).place.state ∙ device-stays k p
