-- The fields of a replay, behind each kind of step.
use Rattle.std.proofs.Common.{◌≡◌, ℕ, zero, suc, ◌+◌, ◌≤◌, ◌<◌, true, Option, Some, None, List, ◌∷◌, refl, sym, ap, ◌∙◌, arith, subst}
use Rattle.std.proofs.Common.{reverse}
use Rattle.std.proofs.lemmas.List.{reverse-reverse}
use Rattle.std.proofs.lemmas.Option.{slice_get_within}
use Rattle.std.specs.Prelude.{slice_get}
use Rattle.device_port.specs.Meaning.{Meaning}
use Rattle.ccw_programs.specs.declared.context.State.{State}
use Rattle.ccw_programs.specs.declared.context.State.TheVariants.{Running, Ended}
use Rattle.ccw_programs.specs.Step.{is_running}
use Rattle.io_images.specs.declared.code.Code.{Code}
use Rattle.io_images.specs.declared.csw.Csw.{Csw}
use Rattle.request_piece.specs.declared.piece.Name.{Name}
use Rattle.unit_book.specs.declared.entry.Entry.{Entry}
use Rattle.unit_book.specs.declared.entry.Entry.TheVariants.{Opened, Arrive, Start, Ran, Halted, Purge, Close, Reset, Post}
use Rattle.unit_book.specs.Trace.{active, request_named, started}
use Rattle.unit_book.specs.Legal.{Legal}
use Rattle.unit_book.specs.Media.{area, attempts, stand}
use Rattle.unit_book.proofs.ActivePosts.{area-current}
use Rattle.unit_book.proofs.Facts.{NewestIs, fits-freely}
use Rattle.unit_book.proofs.LegalFacts.{facts, newest-ran}
use Rattle.unit_history.specs.declared.attempt.Attempt.{Attempt}
use Rattle.unit_history.specs.Replayed.{IsPost, IsRan, partly, replayed}
use Rattle.unit_history.specs.Ties.{IsWithin, ReplayTies}
use Rattle.unit_history.proofs.ReplayBefore.{before, before-next, legal-before}
use Rattle.unit_history.proofs.Entries.{Stands, IsSilent, silent}

-- which entry it is
pub ran-entry : (j : ℕ) (o : Option Entry) → IsRan j o → (n : Name) × (o ≡ Some (Ran n j))
ran-entry j None h = absurd h
ran-entry j (Some (Opened d i x)) h = absurd h
ran-entry j (Some (Arrive r)) h = absurd h
ran-entry j (Some (Start n)) h = absurd h
ran-entry j (Some (Ran n k)) h = (n, ap (λ x. Some (Ran n x)) h)
ran-entry j (Some (Halted n)) h = absurd h
ran-entry j (Some (Purge s m)) h = absurd h
ran-entry j (Some (Close d)) h = absurd h
ran-entry j (Some (Reset d)) h = absurd h
ran-entry j (Some (Post n c s k)) h = absurd h

pub post-entry : (n : Name) (o : Option Entry) → IsPost n o → (csw : Csw) × (sense : ℕ) × (code : Code) × (o ≡ Some (Post n csw sense code))
post-entry n None h = absurd h
post-entry n (Some (Opened d i x)) h = absurd h
post-entry n (Some (Arrive r)) h = absurd h
post-entry n (Some (Start m)) h = absurd h
post-entry n (Some (Ran m k)) h = absurd h
post-entry n (Some (Halted m)) h = absurd h
post-entry n (Some (Purge s m)) h = absurd h
post-entry n (Some (Close d)) h = absurd h
post-entry n (Some (Reset d)) h = absurd h
post-entry n (Some (Post m c s k)) h = (c, s, k, ap (λ x. Some (Post x c s k)) h)

-- an entry that is not of commands is not done in part
abbrev pub IsWhole : Entry → Type 0
IsWhole (Ran n j) = ⊥
IsWhole _ = Unit {0}

pub whole-none : (ran : ℕ) (e : Entry) → IsWhole e → IsWithin ran (Some e) → ran ≡ 0
whole-none zero e w h = refl
whole-none (suc k) (Opened d i x) w h = absurd h
whole-none (suc k) (Arrive r) w h = absurd h
whole-none (suc k) (Start m) w h = absurd h
whole-none (suc k) (Ran m j) w h = absurd w
whole-none (suc k) (Halted m) w h = absurd h
whole-none (suc k) (Purge s m) w h = absurd h
whole-none (suc k) (Close d) w h = absurd h
whole-none (suc k) (Reset d) w h = absurd h
whole-none (suc k) (Post m c s q) w h = absurd h

pub within-less : (k : ℕ) (n : Name) (j : ℕ) → 1 ≤ j → IsWithin k (Some (Ran n j)) → k < j
within-less zero n j some h = omega (arith, some)
within-less (suc k) n j some h = h

pub running-state : (s : State) → is_running s ≡ true → s ≡ Running
running-state Running h = refl
running-state (Ended csw sense) h = absurd cc

module _ {D : Type 0} (meaning : Meaning D) (mounted : D) where
  -- nothing is replayed
  pub ties-none : (entries : List Entry) (now : D) → now ≡ mounted → ReplayTies meaning mounted entries 0 0 now None
  unfolding active started attempts stand
  ties-none entries now h = record { few = omega arith; within = tt; device_is = h; attempt_is = refl }

  pub legal-reversed : (trace : List Entry) → Legal meaning mounted trace → Legal meaning mounted (reverse (reverse trace))
  legal-reversed trace l = subst (Legal meaning mounted) (sym (reverse-reverse trace)) l

  newest-at : (ran : ℕ) (o : Option Entry) (H : List Entry) → Legal meaning mounted H →
      ((e : Entry) → o ≡ Some e → Legal meaning mounted (e ∷ H)) → IsWithin ran o →
      (m : Name) → active (partly ran o H) ≡ Some m → NewestIs m (partly ran o H)
  unfolding Legal active started
  newest-at zero o H l next w m a = (facts meaning mounted H l).4 m a
  newest-at (suc k) None H l next w m a = absurd w
  newest-at (suc k) (Some (Opened d i x)) H l next w m a = absurd w
  newest-at (suc k) (Some (Arrive r)) H l next w m a = absurd w
  newest-at (suc k) (Some (Start n)) H l next w m a = absurd w
  newest-at (suc k) (Some (Ran n j)) H l next w m a =
      let running = (fits-freely meaning mounted (Ran n j) H refl (next (Ran n j) refl).0).1.active in
      let named : Some n ≡ Some m = sym running ∙ a in
      let e : n ≡ m = cc in
      subst (λ x. NewestIs x (Ran n (suc k) ∷ H)) e
      (newest-ran n (suc k) H running ((facts meaning mounted H l).4 n running))
  newest-at (suc k) (Some (Halted n)) H l next w m a = absurd w
  newest-at (suc k) (Some (Purge s q)) H l next w m a = absurd w
  newest-at (suc k) (Some (Close d)) H l next w m a = absurd w
  newest-at (suc k) (Some (Reset d)) H l next w m a = absurd w
  newest-at (suc k) (Some (Post n c s q)) H l next w m a = absurd w

  module _ (entries : List Entry) (done : ℕ) (e : Entry) (here : slice_get entries done ≡ Some e)
      (l : Legal meaning mounted (reverse entries)) where
    -- the trace up to the next entry is legal
    pub legal-here : Legal meaning mounted (e ∷ before entries done)
    legal-here = subst (Legal meaning mounted) (before-next entries done e here) (legal-before meaning mounted entries (done + 1) l)

    -- what stands behind the entry is what stands behind the whole of it
    pub ties-behind : (ran : ℕ) → ran ≡ 0 → (now : D) (attempt : Option Attempt) →
        Stands meaning mounted (e ∷ before entries done) now attempt → ReplayTies meaning mounted entries (done + 1) ran now attempt
    ties-behind ran zero_is now attempt s =
        let b : replayed entries (done + 1) 0 ≡ e ∷ before entries done = before-next entries done e here in
        let t = subst (λ x. Stands meaning mounted x now attempt) (sym b) s in
        let w = slice_get_within entries done e here in
        rw zero_is (record { few = omega (arith, w); within = tt; device_is = t.0; attempt_is = t.1 })

    -- before an entry of which nothing is done
    pub stands-before : (ran : ℕ) → ran ≡ 0 → {now : D} {attempt : Option Attempt} →
        ReplayTies meaning mounted entries done ran now attempt → Stands meaning mounted (before entries done) now attempt
    stands-before ran zero_is {now} {attempt} t =
        let s : Stands meaning mounted (replayed entries done ran) now attempt = (t.device_is, t.attempt_is) in
        subst (λ x. Stands meaning mounted (replayed entries done x) now attempt) zero_is s

    pub ties-silent : IsSilent meaning mounted e → IsWhole e → {ran : ℕ} {now : D} {attempt : Option Attempt} →
        ReplayTies meaning mounted entries done ran now attempt → ReplayTies meaning mounted entries (done + 1) ran now attempt
    ties-silent q w {ran} {now} {attempt} t =
        let z = whole-none ran e w (subst (IsWithin ran) here t.within) in
        ties-behind ran z now attempt (silent meaning mounted e (before entries done) now attempt q legal-here (stands-before ran z t))

  module _ (entries : List Entry) (done : ℕ) (n : Name) (j : ℕ) (here : slice_get entries done ≡ Some (Ran n j)) where
    -- in an entry of commands
    pub stands-within : {ran : ℕ} {now : D} {attempt : Option Attempt} → ReplayTies meaning mounted entries done ran now attempt →
        Stands meaning mounted (partly ran (Some (Ran n j)) (before entries done)) now attempt
    stands-within {ran} {now} {attempt} t =
        let s : Stands meaning mounted (replayed entries done ran) now attempt = (t.device_is, t.attempt_is) in
        subst (λ x. Stands meaning mounted (partly ran x (before entries done)) now attempt) here s

    -- behind one more command that is not the last
    pub ties-within : (ran : ℕ) {now : D} {attempt : Option Attempt} → ran + 1 < j →
        Stands meaning mounted (Ran n (suc ran) ∷ before entries done) now attempt →
        ReplayTies meaning mounted entries done (ran + 1) now attempt
    ties-within ran {now} {attempt} few s =
        let more : ran + 1 ≡ suc ran = omega arith in
        let w = slice_get_within entries done (Ran n j) here in
        let t = subst (λ x. Stands meaning mounted (partly (suc ran) x (before entries done)) now attempt) (sym here) s in
        rw more (record {
          few = omega (arith, w);
          within = subst (IsWithin (suc ran)) (sym here) (omega (arith, few, more));
          device_is = t.0;
          attempt_is = t.1;
        })

  -- the storage of the active request
  pub area-shown : (entries : List Entry) (done ran : ℕ) {now : D} (a : Attempt) → Legal meaning mounted (reverse entries) →
      ReplayTies meaning mounted entries done ran now (Some a) →
      a.area ≡ area meaning mounted (request_named a.issued.now.name (replayed entries done ran)) (replayed entries done ran)
  area-shown entries done ran a l t =
      let n = a.issued.now.name in
      let R = replayed entries done ran in
      let w = newest-at ran (slice_get entries done) (before entries done) (legal-before meaning mounted entries done l)
      (λ e here. legal-here entries done e here l) t.within n t.attempt_is.is in
      t.attempt_is.area ∙ sym (area-current meaning mounted n R w)
