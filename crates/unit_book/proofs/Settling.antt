-- A list of starts, runs and interruptions: what it adds, and that an attempt of a request brings a book nearer to
-- having nothing to do.
use Rattle.unit_book.proofs.Names.{◌≡◌, ◌≤◌, ◌<◌, ℕ, zero, suc, ◌+◌, ◌-◌, Bool, true, false, not, ◌||◌, Option, Some, None, List, [], ◌∷◌}
use Rattle.unit_book.proofs.Names.{◌++◌, append_assoc, length, refl, sym, ap, ◌∙◌, arith, subst, if◌then◌else◌, slice_get, is_some, Csw}
use Rattle.unit_book.proofs.Names.{Code, ExtentViolated, Purged, Meaning, Program, after, length_of, is_running, no_status, Name, Piece}
use Rattle.unit_book.proofs.Names.{Starting, Busy, Started, Violated, NothingRuns, RanSome, Interruption, NothingPending, TriedAgain}
use Rattle.unit_book.proofs.Names.{WasPosted, Entry, Start, Ran, Post, same, arrivals, has_started, is_posted, waiting, started, active}
use Rattle.unit_book.proofs.Names.{starts_of, newest, current, active_phase, still_runs, doomed, all_posted, after_dooms, Legal}
use Rattle.unit_book.proofs.Names.{StartsAgain, StartsFirst, Book, StartsBook, RunsBook, InterruptsBook, MayStart, MayFirst, MayAgain}
use Rattle.std.proofs.Common.{◌*◌}
use Rattle.std.specs.Prelude.{min}
use Rattle.std.specs.List.{find}
use Rattle.ccw_programs.proofs.StepLaws.{step-ended, step-later, length-ends, length-few}
use Rattle.unit_book.specs.declared.answer.Starting.TheVariants.{Idle}
use Rattle.unit_book.specs.declared.answer.Running.{Running as RunAnswer}
use Rattle.unit_book.specs.Legal.{FailsCheck}
use Rattle.unit_book.specs.Answers.{StartsOne}
use Rattle.unit_book.specs.Book.{active_count, is_pending}
use Rattle.unit_book.specs.Settle.{AddsService, Settles, Stays, Then, Steps, distance, is_service, starts_left, unposted}
use Rattle.unit_book.proofs.Lists.{same-refl, no_both, all-append, all-filter, without, all-at}
use Rattle.unit_book.proofs.Facts.{NewestIs, active-is, active-start, active-post, waiting-start, waiting-post}
use Rattle.unit_book.proofs.LegalFacts.{facts}
use Rattle.unit_book.proofs.Dooms.{length-filter_le}
use Rattle.unit_book.proofs.Restarts.{retry-few}
use Rattle.unit_book.proofs.Runs.{current-ran}
use Rattle.std.proofs.lemmas.Grind.{common_steps}

-- WHAT IS ADDED

adds-none : (H : List Entry) → AddsService H H
adds-none H = record { later = []; is = refl; only = refl }

adds-more : (H G K : List Entry) → AddsService H G → AddsService G K → AddsService H K
adds-more H G K a b = record {
  later = b.later ++ a.later;
  is = b.is ∙ ap (λ x. b.later ++ x) a.is ∙ sym (append_assoc b.later a.later H);
  only = all-append is_service b.later a.later b.only a.only;
}

adds-one : (e : Entry) (H : List Entry) → is_service e ≡ true → AddsService H (e ∷ H)
adds-one e H s = record { later = e ∷ []; is = refl; only = rw s refl }

adds-posts : (rs : List Piece) (H : List Entry) → AddsService H (all_posted rs H)
adds-posts [] H = adds-none H
adds-posts (r ∷ rs) H =
    let G = Post r.name no_status 0 Purged ∷ H in
    adds-more H G (all_posted rs G) (adds-one (Post r.name no_status 0 Purged) H refl) (adds-posts rs G)

adds-post : (n : Name) (csw : Csw) (sense : ℕ) (code : Code) (H : List Entry) → AddsService H (after_dooms (Post n csw sense code ∷ H))
adds-post n csw sense code H =
    let G = Post n csw sense code ∷ H in
    adds-more H G (after_dooms G) (adds-one (Post n csw sense code) H refl) (adds-posts (doomed G) G)

-- what a list of steps leaves as it was, and what it adds
pub record IsServed {D : Type 0} (old new : Book D) : Type 0 where
  pub adds : AddsService old.trace new.trace
  pub mounted : new.mounted ≡ old.mounted
  pub isc : new.isc ≡ old.isc
  pub capacity : new.capacity ≡ old.capacity

module _ {D : Type 0} (meaning : Meaning D) where
  served-none : (b : Book D) → IsServed b b
  served-none b = record { adds = adds-none b.trace; mounted = refl; isc = refl; capacity = refl }

  starts-served : (old new : Book D) (answer : Starting) → StartsBook meaning old answer new → IsServed old new
  starts-served old new v2 h = grind (arith, common_steps, adds-one, adds-post)

  runs-served : (old new : Book D) (max : ℕ) (answer : RunAnswer) → RunsBook meaning old max answer new → IsServed old new
  runs-served old new max v3 h = grind (arith, common_steps, adds-one)

  interrupts-served : (old new : Book D) (answer : Interruption) → InterruptsBook meaning old answer new → IsServed old new
  interrupts-served old new v2 h = grind (arith, common_steps, adds-post)

  step-served : (old new : Book D) → Steps meaning old new → IsServed old new
  step-served old new v2 = grind (arith, common_steps, starts-served, runs-served, interrupts-served)

  served-more : (old mid new : Book D) → IsServed old mid → IsServed mid new → IsServed old new
  served-more old mid new a b = grind (arith, common_steps, adds-more)

  pub settles-served : {old new : Book D} → Settles meaning old new → IsServed old new
  settles-served {old} Stays = served-none old
  settles-served {old} {new} (Then {mid = m} s p) = served-more old m new (settles-served s) (step-served m new p)

  -- a list of steps behind another
  pub settles-more : {old mid new : Book D} → Settles meaning old mid → Settles meaning mid new → Settles meaning old new
  settles-more a Stays = a
  settles-more a (Then s p) = Then (settles-more a s) p

-- TESTS ON LISTS

module _ {X : Type 0} where
  find-still_none : (p q : X → Bool) → ((x : X) → q x ≡ true → p x ≡ true) → (xs : List X) → find p xs ≡ None → find q xs ≡ None
  find-still_none p q w [] h = refl
  find-still_none p q w (x ∷ xs) h = grind (arith, common_steps, find-still_none p q w xs)

first-fewer : (r : Piece) (rs : List Piece) → slice_get rs 0 ≡ Some r → length (without r.name rs) < length rs
unfolding without
first-fewer r [] e = absurd cc
first-fewer r (q ∷ qs) e = grind (arith, common_steps, length-filter_le)

-- WHAT IS LEFT TO DO, entry by entry

not-or_right : (a b : Bool) → not (a || b) ≡ true → b ≡ false
not-or_right v0 v1 h = grind (arith, common_steps)

pub first-unposted : (r : Piece) (H : List Entry) → slice_get (waiting H) 0 ≡ Some r → is_posted r.name H ≡ false
unfolding waiting
first-unposted r H e =
    let p = λ (q : Piece). not (has_started q.name H || is_posted q.name H) in
    not-or_right (has_started r.name H) (is_posted r.name H) (all-at p (waiting H) 0 r (all-filter p (arrivals H)) e)

pub still-none : (n : Name) (csw : Csw) (sense : ℕ) (code : Code) (H : List Entry) → active H ≡ None →
    active (Post n csw sense code ∷ H) ≡ None
unfolding active started
still-none n csw sense code H h = grind (arith, common_steps, find-still_none)

pub posts-none : (rs : List Piece) (H : List Entry) → active H ≡ None → active (all_posted rs H) ≡ None
posts-none [] H h = h
posts-none (r ∷ rs) H h = posts-none rs (Post r.name no_status 0 Purged ∷ H) (still-none r.name no_status 0 Purged H h)

post-fewer : (n : Name) (csw : Csw) (sense : ℕ) (code : Code) (H : List Entry) →
    length (waiting (Post n csw sense code ∷ H)) ≤ length (waiting H)
unfolding without
post-fewer n csw sense code H = grind (arith, common_steps, waiting-post, length-filter_le)

start-fewer : (n : Name) (H : List Entry) → length (waiting (Start n ∷ H)) ≤ length (waiting H)
unfolding without
start-fewer n H = rw (waiting-start n H) (length-filter_le (λ (r : Piece). not (same n r.name)) (waiting H))

posts-fewer : (rs : List Piece) (H : List Entry) → length (waiting (all_posted rs H)) ≤ length (waiting H)
posts-fewer [] H = omega arith
posts-fewer (r ∷ rs) H = grind (arith, common_steps, post-fewer, posts-fewer rs)

module _ {D : Type 0} (meaning : Meaning D) (mounted : D) where
  -- a program that goes on has fetched 4,096 CCWs at most
  fetched-few : (k : ℕ) (p : Program D) → p.place.fetched ≤ 4096 → is_running (after meaning k p).place.state ≡ true →
      (after meaning k p).place.fetched ≤ 4096
  unfolding after
  fetched-few zero p b h = b
  fetched-few (suc k) p b h = grind (arith, common_steps, step-later, step-ended, fetched-few k p b)

  current-few : (H : List Entry) → is_running (current meaning mounted H).place.state ≡ true →
      (current meaning mounted H).place.fetched ≤ 4096
  unfolding newest
  current-few H h = grind (arith, common_steps, fetched-few)

  -- as many commands as a program is long end it
  runs-out : (n : Name) (j : ℕ) (H : List Entry) → NewestIs n H → still_runs (active_phase meaning mounted n H) ≡ true →
      j ≡ min 4294967295 (length_of meaning (current meaning mounted H)) →
      still_runs (active_phase meaning mounted n (Ran n j ∷ H)) ≡ false
  runs-out n j H w h e = grind (arith, common_steps, length-few, length-ends, current-few, current-ran)

-- after the start a request was posted, or one is on the channel
data Begun {D : Type 0} (old mid : Book D) : Type 0 where
  Posted : active mid.trace ≡ None → unposted mid.trace < unposted old.trace → Begun old mid
  OnChannel : (n : Name) → active mid.trace ≡ Some n → mid.awaits ≡ false → unposted mid.trace ≤ unposted old.trace →
      (starts_of n mid.trace ≤ 10 → 11 - starts_of n mid.trace < starts_left old.trace old.awaits (active old.trace)) → Begun old mid

some-is : {o p : Name} → Some o ≡ Some p → o ≡ p
some-is k = cc

none-is : {o : Name} → None ≡ Some o → ⊥
none-is k = cc

module _ {D : Type 0} (meaning : Meaning D) where
  still-busy : (old : Book D) (o : Option Name) → active old.trace ≡ o → is_some o ≡ true → old.awaits ≡ false → Begun old old
  still-busy old None e h a = absurd cc
  still-busy old (Some n) e h a = OnChannel n e a (omega arith) (λ few. rw (e, a) (omega arith))

  first-begun : (old mid : Book D) (n : Name) → StartsFirst meaning old.mounted n old.trace → StartsOne old n mid → Begun old mid
  first-begun old mid n s h =
      let H = old.trace in
      let e : mid.trace ≡ Start n ∷ H = ap (λ (b : Book D). b.trace) h in
      let a : mid.awaits ≡ false = ap (λ (b : Book D). b.awaits) h in
      let none = s.none in
      let unposted_first = subst (λ (x : Name). is_posted x H ≡ false) s.name (first-unposted s.request H s.first) in
      let is = active-start n H unposted_first in
      let fewer = subst (λ (x : Name). length (without x (waiting H)) < length (waiting H)) s.name
      (first-fewer s.request (waiting H) s.first) in
      let left = ap length (waiting-start n H) in
      let one = ap active_count is in
      let zero_active = ap active_count none in
      OnChannel n (rw e is) a (rw e (omega (arith, fewer, left, one, zero_active))) (λ few. rw none (omega arith))

  again-begun : (old mid : Book D) (n : Name) → old.awaits ≡ true → StartsAgain meaning old.mounted n old.trace →
      StartsOne old n mid → Begun old mid
  again-begun old mid n o s h =
      let H = old.trace in
      let e : mid.trace ≡ Start n ∷ H = ap (λ (b : Book D). b.trace) h in
      let a : mid.awaits ≡ false = ap (λ (b : Book D). b.awaits) h in
      let act = s.active in
      let is = active-start n H (active-is n H act).1 in
      let fewer = start-fewer n H in
      let one = ap active_count is in
      let one_before = ap active_count act in
      let same_name = same-refl n in
      let more : starts_of n (Start n ∷ H) ≡ suc (starts_of n H) = rw same_name refl in
      OnChannel n (rw e is) a (rw e (omega (arith, fewer, one, one_before)))
      (rw (e, act, o) (λ few. omega (arith, few, more)))

  violated-begun : (old mid : Book D) (n : Name) → FailsCheck meaning old.mounted n old.trace →
      mid.trace ≡ after_dooms (Post n no_status 0 ExtentViolated ∷ old.trace) → Begun old mid
  violated-begun old mid n s e = grind (arith, common_steps, posts-none, still-none, first-fewer, waiting-post, posts-fewer)

  begins : (old mid : Book D) (answer : Starting) → (answer ≡ Idle → ⊥) → StartsBook meaning old answer mid → Begun old mid
  begins old mid Busy k h = let e = h.2 in rw e (still-busy old (active old.trace) refl h.0 h.1)
  begins old mid Idle k h = absurd (k refl)
  begins old mid (Started n) k h = by_start h.0 where
    by_start : MayStart meaning old n → Begun old mid
    by_start (MayFirst s) = first-begun old mid n s h.1
    by_start (MayAgain o s) = again-begun old mid n o s h.1
  begins old mid (Violated n) k h = violated-begun old mid n h.0 (ap (λ (b : Book D). b.trace) h.1)

  -- AN ATTEMPT: a start that found something, a run to the end of the program, and an interruption
  pub record Tried (old new : Book D) : Type 0 where
    pub mid : Book D
    pub ran : Book D
    pub starting : Starting
    pub running : RunAnswer
    pub ending : Interruption
    pub found : starting ≡ Idle → ⊥
    pub started_as : StartsBook meaning old starting mid
    pub ran_as : RunsBook meaning mid 4294967295 running ran
    pub legal : Legal meaning ran.mounted ran.trace
    pub ended_as : InterruptsBook meaning ran ending new

  -- after the run the status of the request is pending
  record IsPending (n : Name) (mid ran : Book D) : Type 0 where
    is : active ran.trace ≡ Some n
    pending : is_pending meaning ran ≡ true
    left : unposted ran.trace ≡ unposted mid.trace
    starts : starts_of n ran.trace ≡ starts_of n mid.trace

  pends : {old new : Book D} (n : Name) (t : Tried old new) → active t.mid.trace ≡ Some n → t.mid.awaits ≡ false → IsPending n t.mid t.ran
  unfolding Legal waiting arrivals active started
  pends n t a g = by_answer t.running t.ran_as where
    by_answer : (answer : RunAnswer) → RunsBook meaning t.mid 4294967295 answer t.ran → IsPending n t.mid t.ran
    by_answer NothingRuns h =
        let e = h.1 in
        let quiet : still_runs (active_phase meaning t.mid.mounted n t.mid.trace)
        ≡ false = none-runs (still_runs (active_phase meaning t.mid.mounted n t.mid.trace)) (rw a at h.0) in
        rw e (record { is = a; pending = rw (a, g, quiet) refl; left = refl; starts = refl }) where
          none-runs : (b : Bool) → (if b then Some n else None) ≡ None → b ≡ false
          none-runs v0 k = grind (arith, common_steps)
    by_answer (RanSome commands pending) h =
        let e = h.adds in
        let k = some-runs (still_runs (active_phase meaning t.mid.mounted n t.mid.trace)) h.name (rw a at h.running) in
        let now : t.ran.trace ≡ Ran n commands ∷ t.mid.trace = ap (λ (b : Book D). b.trace) e
        ∙ ap (λ x. Ran x commands ∷ t.mid.trace) k.1 in
        let still : t.ran.mounted ≡ t.mid.mounted = ap (λ (b : Book D). b.mounted) e in
        let same_again : t.ran.awaits ≡ t.mid.awaits = ap (λ (b : Book D). b.awaits) e in
        let legal : Legal meaning t.mid.mounted (Ran n commands ∷ t.mid.trace) = rw (still, now) at t.legal in
        let w = (facts meaning t.mid.mounted t.mid.trace legal.1).4 n a in
        let out = runs-out meaning t.mid.mounted n commands t.mid.trace w k.0 h.count in
        record { is = rw now a; pending = rw (now, still, same_again, a, g, out) refl; left = rw now refl; starts = rw now refl } where
          some-runs : (b : Bool) (m : Name) → (if b then Some n else None) ≡ Some m → (b ≡ true) × (m ≡ n)
          some-runs v0 m k = grind (arith, common_steps, some-is, none-is)

  run-none : (mid ran : Book D) (answer : RunAnswer) → active mid.trace ≡ None → RunsBook meaning mid 4294967295 answer ran → ran ≡ mid
  run-none mid ran v2 a h = grind (arith, common_steps)

  interrupt-none : (ran new : Book D) (answer : Interruption) → active ran.trace ≡ None → InterruptsBook meaning ran answer new → new ≡ ran
  interrupt-none ran new v2 a h = grind (arith, common_steps)

  -- after the interruption the request was posted, or awaits its restart
  ends : {old new : Book D} (n : Name) (t : Tried old new) (left : ℕ) → active t.ran.trace ≡ Some n → is_pending meaning t.ran ≡ true →
      (starts_of n t.ran.trace ≤ 10 → 11 - starts_of n t.ran.trace < left) → distance new < 13 * unposted t.ran.trace + left
  ends {new = new} n t left a p few = by_answer t.ending t.ended_as where
    by_answer : (answer : Interruption) → InterruptsBook meaning t.ran answer new → distance new < 13 * unposted t.ran.trace + left
    by_answer NothingPending h = no_both (is_pending meaning t.ran) p h.0
    by_answer (TriedAgain m) h =
        let s = h.1 in
        let i : m ≡ n = some-is (sym s.active ∙ a) in
        let ten = subst (λ x. starts_of x t.ran.trace ≤ 10) i
        (retry-few (meaning.kind t.ran.mounted) s.status.csw s.status.sense (starts_of m t.ran.trace) s.retry) in
        let less = few ten in
        rw (h.2, a) (omega (arith, less))
    by_answer (WasPosted m code) h = grind (arith, common_steps, posts-none, active-post, facts, post-fewer, posts-fewer)

  -- AN ATTEMPT BRINGS A BOOK NEARER
  pub nearer : (old new : Book D) → Tried old new → distance new < distance old
  nearer old new t = by_begun (begins old t.mid t.starting t.found t.started_as) where
    by_begun : Begun old t.mid → distance new < distance old
    by_begun (Posted none fewer) = grind (arith, common_steps, run-none, interrupt-none)
    by_begun (OnChannel n is a left few) =
        let p = pends n t is a in
        let d = ends n t (starts_left old.trace old.awaits (active old.trace)) p.is p.pending (rw p.starts few) in
        omega (arith, d, p.left, left)
