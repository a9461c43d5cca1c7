-- What the calls of a book come to, one step of its entries after another.
use Rattle.unit_book.proofs.Names.{◌≡◌, ◌+◌, ℕ, Bool, true, false, Ok, Err, List, [], ◌∷◌, refl, sym, ap, ◌∙◌, subst, OnOk, OnErr, Status}
use Rattle.unit_book.proofs.Names.{Code, Extent, Meaning, Name, Scope, Mode, Entry, Opened, Purge, Close, Post, request_named, opened_count}
use Rattle.unit_book.proofs.Names.{doomed, posted, PurgesBy, covers_awaiting, halted_by, after_halt, after_dooms, Book, Adds, Extends}
use Rattle.unit_book.proofs.Names.{RunsBook, Due, ToHalt, due, doomed_first, not, ◌&&◌, ◌||◌, Option, Some, None, and_parts, is_some}
use Rattle.unit_book.proofs.Names.{Purged, after, no_status, Piece, Starting, NothingRuns, RanSome, Interruption, Arrive, waiting, active}
use Rattle.unit_book.proofs.Names.{started, arrivals, has_started, is_halt, is_halted, arrived_of, is_doomed, all_posted, attempts, newest}
use Rattle.unit_book.proofs.Names.{still_runs, Legal, CanPurge, due_by, is_to_halt, running_name_by, StartsBook, InterruptsBook, covered_by}
use Rattle.unit_book.proofs.Names.{after_purge, Each, ProcessingMethod, empty_status, arith}
use Rattle.std.proofs.Common.{Result}
use Rattle.std.specs.declared.alloc.AllocError.{AllocError}
use Rattle.unit_book.specs.declared.answer.Running.{Running}
use Rattle.unit_book.specs.declared.answer.Running.TheVariants.{Quiet, Ran}
use Rattle.unit_book.specs.Answers.{PostsOne, pending_after}
use Rattle.unit_queue.specs.declared.selection.Selection.{Selection}
use Rattle.unit_book.specs.Legal.{Settled}
use Rattle.unit_book.specs.Book.{running_name, is_pending, pending_by}
use Rattle.unit_book.specs.declared.answer.Purging.{Purging}
use Rattle.unit_book.specs.Controls.{PurgesBook, halts_program}
use Rattle.unit_book.proofs.Dooms.{settled-ran, settled-open, due-no_halt, since-post}
use Rattle.unit_book.proofs.Lists.{same-refl}
use Rattle.unit_book.proofs.Facts.{Facts, WaitsAmong, waits, Each-weaker, Each-filter, active-is, active-start, active-post}
use Rattle.unit_book.proofs.Facts.{active-post_waiting}
use Rattle.unit_book.proofs.LegalFacts.{SoundTrace, facts}
use Rattle.unit_book.proofs.Same.{phase-same, fits-free}
use Rattle.unit_book.proofs.Settling.{first-unposted, still-none, posts-none}
use Rattle.unit_book.proofs.WorldTraces.{grows-purge}
use Rattle.std.proofs.Math.Bool.{and-false}
use Rattle.std.proofs.lemmas.Grind.{common_steps}

-- what a call of `run` did, and that it keeps a book settled
pub record RunCall {D : Type 0} (meaning : Meaning D) (old new : Book D) (answer : Running) : Type 0 where
  pub max : ℕ
  pub runs : RunsBook meaning old max answer new

pub run-settled : {D : Type 0} (meaning : Meaning D) {old new : Book D} (answer : Running) → RunCall meaning old new answer →
    Settled meaning old.mounted old.trace → Settled meaning new.mounted new.trace
run-settled meaning Quiet r s = let e = r.runs.1 in rw e s
run-settled meaning {old = old} (Ran c pending) r s = grind (arith, common_steps, settled-ran)

-- what a call of `open` did, and that it keeps a book settled
pub record OpenCall {D : Type 0} (old new : Book D) (result : Result ℕ AllocError) : Type 0 where
  pub method : ProcessingMethod
  pub extents : List Extent
  pub ok : OnOk result (Adds old (Opened (opened_count old.trace + 1) method extents) new)
  pub err : OnErr result (new ≡ old)

pub open-settled : {D : Type 0} (meaning : Meaning D) {old new : Book D} (result : Result ℕ AllocError) → OpenCall old new result →
    Settled meaning old.mounted old.trace → Settled meaning new.mounted new.trace
open-settled meaning {old = old} (Ok d) o s = grind (arith, common_steps, settled-open)
open-settled meaning (Err x) o s = let e = o.err in rw e s

-- a post and what it dooms, as one step
module _ {D : Type 0} (meaning : Meaning D) {old posting : Book D} {n : Name} {status : Status} {code : Code} {doom : Option Selection}
    (p : PostsOne meaning old n status code doom posting) where
  abbrev H : List Entry
  H = old.trace

  abbrev G : List Entry
  G = Post n status.csw status.sense code ∷ H

  pub post-then-sweep : {new : Book D} → Extends meaning posting (after_dooms posting.trace) posting.awaits new →
      Extends meaning old (after_dooms G) false new
  post-then-sweep {new} s = grind (arith, common_steps, since-post)

  -- only the dooms are due after a post
  pub sweep-due : due meaning posting.mounted posting.trace ≡ doomed_first (doomed posting.trace)
  sweep-due = let q = p.extends in rw q (due-no_halt meaning old.mounted G (λ n a. refl))

-- entries that post nothing, and what they doom, as one step
module _ {D : Type 0} (meaning : Meaning D) where
  pub add-then-sweep : {adding new : Book D} (old : Book D) (G : List Entry) → posted meaning old.mounted G
      ≡ posted meaning old.mounted old.trace →
      adding ≡ record old { trace = G; spare = adding.spare } →
      Extends meaning adding (after_dooms adding.trace) adding.awaits new → Extends meaning old (after_dooms G) old.awaits new
  add-then-sweep {new = new} old G p a s = grind (arith, common_steps)

  pub posted-halt : (mounted : D) (scope : Scope) (mode : Mode) (H : List Entry) →
      posted meaning mounted (after_halt meaning mounted (Purge scope mode ∷ H)) ≡ posted meaning mounted H
  unfolding posted
  posted-halt mounted scope mode H = grind (arith, common_steps)

  -- a purge of a book in which room was made
  pub purge-reserved : {old mid new : Book D} {scope : Scope} {mode : Mode} {answer : Purging} → mid ≡ record old { spare = mid.spare } →
      PurgesBook meaning mid scope mode answer new → PurgesBook meaning old scope mode answer new
  purge-reserved {old} {mid} {new} {scope} {mode} m p =
      let same : covers_awaiting mid scope mode ≡ covers_awaiting old scope mode = rw m refl in
      record {
        purges = subst (λ b. PurgesBy meaning b old scope mode new) same (by_test (covers_awaiting mid scope mode) p.purges);
        answer_is = p.answer_is;
      } where
        by_test : (awaiting : Bool) → PurgesBy meaning awaiting mid scope mode new → PurgesBy meaning awaiting old scope mode new
        by_test false q = rw m at q
        by_test true q = record {
          name = q.name;
          status = q.status;
          fits = rw m at q.fits;
          extends = rw m at q.extends;
        }

-- When a status is pending: what each call of a book makes of it.

dooms-attempts : (rs : List Piece) (H : List Entry) → attempts (all_posted rs H) ≡ attempts H
unfolding attempts
dooms-attempts [] H = refl
dooms-attempts (r ∷ rs) H = dooms-attempts rs (Post r.name no_status 0 Purged ∷ H)

dooms-halted : (rs : List Piece) (H : List Entry) (n : Name) → is_halted n (all_posted rs H) ≡ is_halted n H
dooms-halted [] H n = refl
dooms-halted (r ∷ rs) H n = dooms-halted rs (Post r.name no_status 0 Purged ∷ H) n

-- A PURGE
purged-facts : (d : Due) (scope : Scope) (mode : Mode) (H : List Entry) → Facts H → Facts (halted_by d (Purge scope mode ∷ H))
unfolding arrivals active started attempts request_named
purged-facts (ToHalt n) scope mode H f = f
purged-facts _ scope mode H f = f

-- THE DOOMS leave it
dooms-active : (rs : List Piece) (H : List Entry) → Each (λ r. has_started r.name H ≡ false) rs → active (all_posted rs H) ≡ active H
dooms-active [] H e = refl
dooms-active (r ∷ rs) H e = dooms-active rs (Post r.name no_status 0 Purged ∷ H) e.1
    ∙ active-post_waiting r.name empty_status Purged H e.0

module _ {D : Type 0} (meaning : Meaning D) (mounted : D) where
  -- nothing is active, or what is active awaits its restart
  pub pending-none : (H : List Entry) (again : Bool) (o : Option Name) → o ≡ None → pending_by meaning mounted H again o ≡ false
  pending-none H again o e = rw e refl

  pub pending-awaits : (H : List Entry) (o : Option Name) → pending_by meaning mounted H true o ≡ false
  pending-awaits v0 v1 = grind (arith, common_steps)

  -- entries that leave the active request and its attempts
  pending-same : (H G : List Entry) (again : Bool) → active G ≡ active H → attempts G ≡ attempts H →
      ((n : Name) → is_halted n G ≡ is_halted n H) →
      pending_by meaning mounted G again (active G) ≡ pending_by meaning mounted H again (active H)
  pending-same H G again a t h = ap (pending_by meaning mounted G again) a ∙ by_active (active H) where
    by_active : (o : Option Name) → pending_by meaning mounted G again o ≡ pending_by meaning mounted H again o
    by_active None = refl
    by_active (Some n) = ap (λ s. not again && not (still_runs s)) (phase-same meaning mounted H G n (t, h n))

  pub pending-dooms : (H : List Entry) (again : Bool) → Facts H → pending_by meaning mounted (after_dooms H) again (active (after_dooms H))
      ≡ pending_by meaning mounted H again (active H)
  pending-dooms H again f =
      let all = Each-filter (WaitsAmong H) (is_doomed H) (waiting H) (waits H f) in
      let e = Each-weaker (WaitsAmong H) (λ r. has_started r.name H ≡ false) (λ r w. w.unstarted) (doomed H) all in
      pending-same H (after_dooms H) again (dooms-active (doomed H) H e) (dooms-attempts (doomed H) H) (dooms-halted (doomed H) H)

  -- the purge halts no program
  unhalted : (scope : Scope) (mode : Mode) (H : List Entry) (n : Name) (again : Bool) → is_to_halt meaning mounted (Purge scope mode ∷ H) n
      ≡ false →
      pending_by meaning mounted (halted_by (due_by meaning mounted (Purge scope mode ∷ H) (Some n)) (Purge scope mode ∷ H)) again (Some n)
      ≡ pending_by meaning mounted H again (Some n)
  unfolding attempts
  unhalted scope mode H n again e = grind (arith, common_steps)

  purge-active : (scope : Scope) (mode : Mode) (H : List Entry) (again : Bool) (o : Option Name) →
      (again ≡ true → running_name_by meaning mounted H o ≡ None) →
      pending_by meaning mounted (halted_by (due_by meaning mounted (Purge scope mode ∷ H) o) (Purge scope mode ∷ H)) again o
      ≡ (pending_by meaning mounted H again o || (is_halt mode && is_some (covered_by scope H (running_name_by meaning mounted H o))))
  unfolding attempts
  purge-active scope mode v2 again v4 k = grind (arith, common_steps)

module _ {D : Type 0} (meaning : Meaning D) where
  pending-posts : (old : Book D) {new : Book D} (G : List Entry) {again : Bool} → Facts G → Extends meaning old (after_dooms G) again new →
      is_pending meaning new ≡ pending_by meaning old.mounted G again (active G)
  pending-posts old G {again} f p = grind (arith, common_steps, pending-dooms)

  pub pending-arrive : (old : Book D) {new : Book D} (r : Piece) → SoundTrace meaning old.mounted old.trace →
      r.name.seq ≡ arrived_of r.name.task old.trace + 1 → Extends meaning old (after_dooms (Arrive r ∷ old.trace)) old.awaits new →
      is_pending meaning new ≡ is_pending meaning old
  unfolding Legal active started attempts
  pending-arrive old r s n p =
      pending-posts old (Arrive r ∷ old.trace)
      (facts meaning old.mounted (Arrive r ∷ old.trace) (fits-free meaning old.mounted (Arrive r) old.trace s.settled n, s.legal)) p

  pub pending-opening : {old new : Book D} (result : Result ℕ AllocError) → OpenCall old new result →
      is_pending meaning new ≡ is_pending meaning old
  unfolding active started attempts
  pending-opening v0 o = grind (arith, common_steps)

  pub pending-close : (old : Book D) {new : Book D} (dcb : ℕ) → Legal meaning old.mounted old.trace →
      Extends meaning old (after_dooms (Close dcb ∷ old.trace)) old.awaits new → is_pending meaning new ≡ is_pending meaning old
  unfolding arrivals active started attempts request_named
  pending-close old dcb l p = pending-posts old (Close dcb ∷ old.trace) (facts meaning old.mounted old.trace l) p

  pub pending-start : (old new : Book D) (answer : Starting) → StartsBook meaning old answer new →
      is_pending meaning new ≡ is_pending meaning old
  unfolding attempts newest after
  pending-start old new v2 h =
      grind (arith, common_steps, pending-none, pending-awaits, first-unposted, active-is, active-start, same-refl, posts-none, still-none)

  pub pending-run : {old new : Book D} (answer : Running) → RunCall meaning old new answer →
      (old.awaits ≡ true → running_name meaning old ≡ None) → is_pending meaning new ≡ pending_after (is_pending meaning old) answer
  unfolding active started
  pending-run NothingRuns r k = ap (is_pending meaning) r.runs.1
  pending-run {old} {new} (RanSome commands pending) r k = grind (arith, common_steps)

  pub pending-interrupt : (old new : Book D) (answer : Interruption) → Legal meaning old.mounted old.trace →
      InterruptsBook meaning old answer new → is_pending meaning new ≡ false
  pending-interrupt old new v2 l h = grind (arith, common_steps, posts-none, active-post, facts)

  -- what a purge finds: the scope may be purged, and what awaits its restart does not run
  pub record FoundByPurge (old : Book D) (scope : Scope) : Type 0 where
    pub sound : SoundTrace meaning old.mounted old.trace
    pub can : CanPurge meaning old.mounted scope old.trace
    pub quiet : old.awaits ≡ true → running_name meaning old ≡ None

  pub pending-purge : {old : Book D} {scope : Scope} (new : Book D) (mode : Mode) → FoundByPurge old scope →
      PurgesBy meaning (covers_awaiting old scope mode) old scope mode new →
      is_pending meaning new ≡ (is_pending meaning old || halts_program meaning old scope mode)
  unfolding due active started
  pending-purge {old} {scope} new mode found p = by_test (covers_awaiting old scope mode) refl p where
    H : List Entry
    H = old.trace

    by_test : (b : Bool) → covers_awaiting old scope mode ≡ b → PurgesBy meaning b old scope mode new →
        is_pending meaning new ≡ (is_pending meaning old || halts_program meaning old scope mode)
    by_test false e q =
        let G = after_halt meaning old.mounted (Purge scope mode ∷ H) in
        pending-posts old G
        (purged-facts (due meaning old.mounted (Purge scope mode ∷ H)) scope mode H (facts meaning old.mounted H found.sound.legal))
        q
        ∙ ap (pending_by meaning old.mounted G old.awaits) (same-active (due meaning old.mounted (Purge scope mode ∷ H)))
        ∙ purge-active meaning old.mounted scope mode H old.awaits (active H) found.quiet where
          same-active : (d : Due) → active (halted_by d (Purge scope mode ∷ H)) ≡ active H
          same-active v0 = grind (arith, common_steps)
    by_test true e q =
        let K = after_purge meaning old.mounted scope mode H in
        let awaits : old.awaits ≡ true = (and_parts (is_halt mode) old.awaits (and_parts (is_halt mode && old.awaits) _ e).0).1 in
        let f = facts meaning old.mounted K (grows-purge scope mode found.sound found.can).legal in
        let none = active-post q.status Purged K f q.fits.active in
        let quiet = found.quiet awaits in
        ap (is_pending meaning) q.extends
        ∙ pending-none meaning old.mounted (Post q.name q.status.csw q.status.sense Purged ∷ K) false _ none
        ∙ sym (rw (awaits, quiet)
        (ap (λ b. b || (is_halt mode && false)) (pending-awaits meaning old.mounted H (active H)) ∙ and-false (is_halt mode)))
