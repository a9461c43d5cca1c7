-- What each call of a book keeps: a legal trace with nothing due, and that what is posted is out.
use Rattle.unit_book.proofs.Names.{empty_status, ◌≡◌, ◌≤◌, ℕ, ◌+◌, Bool, true, false, List, [], ◌∷◌, ◌++◌, refl, sym, ap, ◌∙◌, arith, inl}
use Rattle.unit_book.proofs.Names.{inr, subst, cases_Bool, append-nil, ExtentViolated, Extent, Meaning, PostedState, Name, Piece, Scope}
use Rattle.unit_book.proofs.Names.{Starting, Started, Violated, NothingRuns, RanSome, Interruption, NothingPending, TriedAgain, WasPosted}
use Rattle.unit_book.proofs.Names.{Mode, Entry, Arrive, Reset, arrivals, arrived_of, is_open, Free, due, Legal, StartFits, OfActive}
use Rattle.unit_book.proofs.Names.{OfFirst, CanPurge, posted, after_dooms, Book, Adds, Extends, MayStart, StartsBook, RunsBook}
use Rattle.unit_book.proofs.Names.{InterruptsBook, PurgesBy, covers_awaiting, after_purge, ProcessingMethod}
use Rattle.ccw_programs.proofs.StepLaws.{steps_within-running}
use Rattle.unit_book.specs.declared.answer.Running.{Running}
use Rattle.unit_book.specs.declared.answer.Purging.{Purging}
use Rattle.unit_book.specs.declared.answer.Closing.{Closing}
use Rattle.unit_book.specs.Legal.{RanFits}
use Rattle.unit_book.specs.Answers.{OpensBook, RunsOn}
use Rattle.unit_book.specs.Controls.{PurgesBook, ClosesBy, ClosesBook}
use Rattle.request_piece.specs.declared.scope.Scope.TheVariants.{Dcb, Task}
use Rattle.unit_book.specs.declared.control.Control.{Control}
use Rattle.unit_book.specs.declared.control.Control.TheVariants as control
use Rattle.unit_book.specs.declared.control.Controlling.{Controlling}
use Rattle.unit_book.specs.declared.control.Controlling.TheVariants as controlling
use Rattle.unit_book.specs.declared.step.UnitAnswer.{UnitAnswer}
use Rattle.unit_book.specs.declared.step.UnitAnswer.TheVariants as answer
use Rattle.unit_book.specs.declared.step.UnitStep.{UnitStep}
use Rattle.unit_book.specs.declared.step.UnitStep.TheVariants as step
use Rattle.unit_book.specs.Steps.{ControlsBook, StepsBook}
use Rattle.unit_book.proofs.LegalFacts.{SoundTrace}
use Rattle.unit_book.proofs.WorldTraces.{Grows, grows-not, grows-open, grows-arrive, grows-start, grows-ran, grows-post, grows-close}
use Rattle.unit_book.proofs.WorldTraces.{grows-reset, grows-purge, grows-purged}
use Rattle.std.proofs.lemmas.Grind.{common_steps}

module _ {D : Type 0} (meaning : Meaning D) where
  -- A CALL KEEPS A BOOK: the trace stays legal and nothing is due; these requests arrived; what was posted is out
  pub record Keeps (old : Book D) (more : List Piece) (new : Book D) : Type 0 where
    pub mounted : new.mounted ≡ old.mounted
    pub isc : new.isc ≡ old.isc
    pub legal : Legal meaning old.mounted new.trace
    pub settled : due meaning old.mounted new.trace ≡ Free
    pub arrived : arrivals new.trace ≡ arrivals old.trace ++ more
    pub values : List PostedState
    pub posted_is : posted meaning old.mounted new.trace ≡ posted meaning old.mounted old.trace ++ values
    pub out : new.out ≡ old.out ++ values

  -- a book whose calls find and leave this
  abbrev pub Sound : Book D → Type 0
  Sound b = SoundTrace meaning b.mounted b.trace

  keeps-posts : {old new : Book D} {H : List Entry} {again : Bool} {more : List Piece} → Extends meaning old H again new →
      Grows meaning old.mounted old.trace H more → Keeps old more new
  keeps-posts {old} {H = H} p g = grind (arith, common_steps)

  -- a call that posts nothing
  keeps-adds : {old new : Book D} {H : List Entry} {again : Bool} →
      new ≡ record old { trace = H; awaits = again; spare = new.spare } → Grows meaning old.mounted old.trace H [] →
      posted meaning old.mounted H ≡ posted meaning old.mounted old.trace → Keeps old [] new
  keeps-adds {old} p g q =
      rw p (record {
        mounted = refl;
        isc = refl;
        legal = g.legal;
        settled = g.settled;
        arrived = g.arrived;
        values = [];
        posted_is = q ∙ sym (append-nil (posted meaning old.mounted old.trace));
        out = sym (append-nil old.out);
      })

  pub keeps-again : {old new : Book D} (again : Bool) → Sound old → new ≡ record old { awaits = again; spare = new.spare } →
      Keeps old [] new
  keeps-again again s p = keeps-adds p (grows-not s) refl

  -- nothing changes
  pub keeps-same : {old new : Book D} → Sound old → new ≡ old → Keeps old [] new
  keeps-same {old} {new} s p = keeps-again old.awaits s (p ∙ ap (λ n. record old { spare = n }) (sym (ap (λ (b : Book D). b.spare) p)))

  pub keeps-arrive : {old new : Book D} {r : Piece} → Sound old → r.name.seq ≡ arrived_of r.name.task old.trace + 1 →
      Extends meaning old (after_dooms (Arrive r ∷ old.trace)) old.awaits new → Keeps old (r ∷ []) new
  keeps-arrive {r = r} s n p = keeps-posts p (grows-arrive r s n)

  pub keeps-open : {old new : Book D} {dcb : ℕ} {method : ProcessingMethod} {extents : List Extent} → Sound old →
      OpensBook meaning old dcb method extents new → Keeps old [] new
  unfolding posted
  keeps-open {dcb = dcb} {method} {extents} s h = keeps-adds h.adds (grows-open dcb method extents s h.fits) refl

  start-fits : (old : Book D) (n : Name) → MayStart meaning old n → StartFits meaning old.mounted n old.trace
  start-fits old n v2 = grind (arith, common_steps)

  pub keeps-start : {old new : Book D} (answer : Starting) → Sound old → StartsBook meaning old answer new → Keeps old [] new
  unfolding posted
  keeps-start {old} (Started n) s h = keeps-adds h.1 (grows-start n s (start-fits old n h.0)) refl
  keeps-start (Violated n) s h =
      let f = OfFirst (record { fails = h.0; code_is = refl; csw_is = refl; sense_is = refl }) in
      keeps-posts h.1 (grows-post n empty_status ExtentViolated s f)
  keeps-start _ s h = keeps-same s h.2

  ran-fits : (old : Book D) {new : Book D} {max commands : ℕ} {pending : Bool} → 1 ≤ max →
      (h : RunsOn meaning old max commands pending new) → RanFits meaning old.mounted h.name commands old.trace
  ran-fits old m h = grind (arith, common_steps, steps_within-running)

  pub keeps-run : {old new : Book D} {max : ℕ} (answer : Running) → Sound old → 1 ≤ max → RunsBook meaning old max answer new →
      Keeps old [] new
  unfolding posted
  keeps-run NothingRuns s m h = keeps-same s h.1
  keeps-run {old} (RanSome commands pending) s m h = keeps-adds h.adds (grows-ran h.name commands s (ran-fits old m h)) refl

  pub keeps-interrupt : {old new : Book D} (answer : Interruption) → Sound old → InterruptsBook meaning old answer new → Keeps old [] new
  keeps-interrupt NothingPending s h = keeps-same s h.1
  keeps-interrupt (TriedAgain n) s h = keeps-again true s h.2
  keeps-interrupt (WasPosted n code) s h = keeps-posts h.1.extends (grows-post n h.1.status code s (OfActive h.1.fits))

  pub keeps-purge : {old new : Book D} {scope : Scope} {mode : Mode} {answer : Purging} → Sound old →
      CanPurge meaning old.mounted scope old.trace → PurgesBook meaning old scope mode answer new → Keeps old [] new
  keeps-purge {old} {new} {scope} {mode} s can h = by_test (covers_awaiting old scope mode) h.purges where
    after : List Entry
    after = after_purge meaning old.mounted scope mode old.trace

    grows : Grows meaning old.mounted old.trace after []
    grows = grows-purge scope mode s can

    by_test : (b : Bool) → PurgesBy meaning b old scope mode new → Keeps old [] new
    by_test false p = keeps-posts p grows
    by_test true p = keeps-posts p.extends (grows-purged p.name p.status grows p.fits)

  pub keeps-close : {old new : Book D} {dcb : ℕ} {answer : Closing} → Sound old → ClosesBook meaning old dcb answer new →
      Keeps old [] new
  keeps-close {old} {new} {dcb} s h =
      elim (cases_Bool (is_open dcb old.trace)) [
        | inl o ↦
            let p : ClosesBy meaning true old dcb new = subst (λ b. ClosesBy meaning b old dcb new) o h.closes in
            keeps-posts p (grows-close dcb s o)
        | inr o ↦ keeps-same s (subst (λ b. ClosesBy meaning b old dcb new) o h.closes)
      ]

  pub keeps-reset : {old new : Book D} {dcb : ℕ} → Sound old → is_open dcb old.trace ≡ true → Adds old (Reset dcb) new →
      Keeps old [] new
  unfolding posted
  keeps-reset {dcb = dcb} s o h = keeps-adds h (grows-reset dcb s o) refl

  pub keeps-control : {old new : Book D} (c : Control) (a : Controlling) → Sound old → ControlsBook meaning old c a new → Keeps old [] new
  keeps-control (control.Purge (Dcb dcb) mode) (controlling.Purged p) s h = keeps-purge {scope = Dcb dcb} s h.0 h.1
  keeps-control (control.Purge (Task task) mode) (controlling.Purged p) s h = keeps-purge {scope = Task task} s tt h
  keeps-control (control.Close dcb) (controlling.Closed c) s h = keeps-close s h
  keeps-control (control.Reset dcb) controlling.Reset s h = keeps-reset s h.0 h.1
  keeps-control (control.Purge (Dcb dcb) mode) (controlling.Closed c) s h = elim h [ ]
  keeps-control (control.Purge (Dcb dcb) mode) controlling.Reset s h = elim h [ ]
  keeps-control (control.Purge (Task task) mode) (controlling.Closed c) s h = elim h [ ]
  keeps-control (control.Purge (Task task) mode) controlling.Reset s h = elim h [ ]
  keeps-control (control.Close dcb) (controlling.Purged p) s h = elim h [ ]
  keeps-control (control.Close dcb) controlling.Reset s h = elim h [ ]
  keeps-control (control.Reset dcb) (controlling.Purged p) s h = elim h [ ]
  keeps-control (control.Reset dcb) (controlling.Closed c) s h = elim h [ ]

  -- EACH STEP OF A BOOK
  pub keeps-step : {old new : Book D} (t : UnitStep) (a : UnitAnswer) → Sound old → StepsBook meaning old t a new → Keeps old [] new
  keeps-step step.Start (answer.Started a) s h = keeps-start a s h
  keeps-step (step.Run max) (answer.Ran a) s h = keeps-run a s h.0 h.1
  keeps-step step.Interrupt (answer.Interrupted a) s h = keeps-interrupt a s h
  keeps-step (step.Control c) (answer.Controlled a) s h = keeps-control c a s h
  keeps-step step.Start (answer.Ran a) s h = elim h [ ]
  keeps-step step.Start (answer.Interrupted a) s h = elim h [ ]
  keeps-step step.Start (answer.Controlled a) s h = elim h [ ]
  keeps-step (step.Run max) (answer.Started a) s h = elim h [ ]
  keeps-step (step.Run max) (answer.Interrupted a) s h = elim h [ ]
  keeps-step (step.Run max) (answer.Controlled a) s h = elim h [ ]
  keeps-step step.Interrupt (answer.Started a) s h = elim h [ ]
  keeps-step step.Interrupt (answer.Ran a) s h = elim h [ ]
  keeps-step step.Interrupt (answer.Controlled a) s h = elim h [ ]
  keeps-step (step.Control c) (answer.Started a) s h = elim h [ ]
  keeps-step (step.Control c) (answer.Ran a) s h = elim h [ ]
  keeps-step (step.Control c) (answer.Interrupted a) s h = elim h [ ]
