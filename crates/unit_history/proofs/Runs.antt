-- One more command of an entry of commands.
use Rattle.std.proofs.Common.{◌≡◌, ℕ, zero, suc, ◌+◌, ◌≤◌, ◌<◌, Some, None, List, ◌∷◌, refl, sym, ◌∙◌, arith, subst, reverse}
use Rattle.std.specs.Prelude.{slice_get}
use Rattle.device_port.specs.Meaning.{Meaning}
use Rattle.ccw_programs.specs.declared.context.State.TheVariants.{Running}
use Rattle.ccw_programs.specs.Step.{after, length_of, program}
use Rattle.request_piece.specs.declared.piece.Name.{Name}
use Rattle.unit_book.specs.declared.entry.Entry.{Entry}
use Rattle.unit_book.specs.declared.entry.Entry.TheVariants.{Ran}
use Rattle.unit_book.specs.Trace.{active, started}
use Rattle.unit_book.specs.Legal.{Legal}
use Rattle.unit_book.proofs.Facts.{fits-freely}
use Rattle.unit_history.specs.declared.attempt.Attempt.{Attempt}
use Rattle.unit_history.specs.Replayed.{IsRan, partly}
use Rattle.unit_history.specs.Ties.{IsWithin, ReplayTies}
use Rattle.unit_history.proofs.ReplayBefore.{before}
use Rattle.unit_history.proofs.Entries.{Stands, has-left, runs, run-stands}
use Rattle.unit_history.proofs.Steps.{legal-here, ran-entry, running-state, stands-within, ties-behind, ties-within, within-less}

module _ {D : Type 0} (meaning : Meaning D) (mounted : D) (entries : List Entry) (done ran j : ℕ) (now : D)
    (l : Legal meaning mounted (reverse entries)) (entry : IsRan j (slice_get entries done)) where
  abbrev n : Name
  n = (ran-entry j (slice_get entries done) entry).0

  here : slice_get entries done ≡ Some (Ran n j)
  here = (ran-entry j (slice_get entries done) entry).1

  legal : Legal meaning mounted (Ran n j ∷ before entries done)
  legal = legal-here meaning mounted entries done (Ran n j) here l

  active-before : active (before entries done) ≡ Some n
  unfolding Legal
  active-before = (fits-freely meaning mounted (Ran n j) (before entries done) refl legal.0).1.active

  some : 1 ≤ j
  unfolding Legal
  some = (fits-freely meaning mounted (Ran n j) (before entries done) refl legal.0).1.some

  active-within : (k : ℕ) → active (partly k (Some (Ran n j)) (before entries done)) ≡ Some n
  unfolding active started
  active-within zero = active-before
  active-within (suc k) = active-before

  -- there is an attempt
  pub nothing-runs : ReplayTies meaning mounted entries done ran now None → ⊥
  nothing-runs t =
      let s = stands-within meaning mounted entries done n j here t in
      let h : None ≡ Some n = sym s.1 ∙ active-within ran in cc

  module _ (a : Attempt) (t : ReplayTies meaning mounted entries done ran now (Some a)) where
    few : ran < j
    few = within-less ran n j some (subst (IsWithin ran) here t.within)

    stands : Stands meaning mounted (partly ran (Some (Ran n j)) (before entries done)) now (Some a)
    stands = stands-within meaning mounted entries done n j here t

    -- its program runs
    pub runs-here : a.context.state ≡ Running
    runs-here = running-state a.context.state (runs meaning mounted n j (before entries done) legal ran few now a stands)

    pub left-here : 1 ≤ length_of meaning (program a.context now a.area)
    left-here = has-left meaning mounted n j (before entries done) legal ran few now a stands

    module _ (after_now : D) (b : Attempt) (same : b.issued ≡ a.issued)
        (stepped : program b.context after_now b.area ≡ after meaning 1 (program a.context now a.area)) where
      stepped-stands : Stands meaning mounted (Ran n (suc ran) ∷ before entries done) after_now (Some b)
      stepped-stands = run-stands meaning mounted n j (before entries done) legal ran few now a stands after_now b same stepped

      -- behind its last command
      pub ran-last : ran + 1 ≡ j → ReplayTies meaning mounted entries (done + 1) 0 after_now (Some b)
      ran-last e =
          let last : suc ran ≡ j = omega (arith, e) in
          ties-behind meaning mounted entries done (Ran n j) here l 0 refl after_now (Some b)
          (subst (λ x. Stands meaning mounted (Ran n x ∷ before entries done) after_now (Some b)) last stepped-stands)

      pub ran-more : (ran + 1 ≡ j → ⊥) → ReplayTies meaning mounted entries done (ran + 1) after_now (Some b)
      ran-more other =
          let f = few in
          ties-within meaning mounted entries done n j here ran (less f other) stepped-stands where
            less : ran < j → (ran + 1 ≡ j → ⊥) → ran + 1 < j
            less f o = grind (arith, f, o)
