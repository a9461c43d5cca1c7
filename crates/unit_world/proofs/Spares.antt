-- What a call does to a book it does to the book with other room for entries.
use Rattle.std.proofs.Common.{ℕ, Bool, true, false, List, ap}
use Rattle.io_images.specs.declared.extent.Extent.{Extent}
use Rattle.device_port.specs.Meaning.{Meaning}
use Rattle.request_piece.specs.declared.scope.Scope.{Scope}
use Rattle.request_piece.specs.declared.scope.Scope.TheVariants.{Dcb, Task}
use Rattle.unit_book.specs.declared.control.Control.{Control}
use Rattle.unit_book.specs.declared.control.Control.TheVariants as control
use Rattle.unit_book.specs.declared.control.Controlling.{Controlling}
use Rattle.unit_book.specs.declared.control.Controlling.TheVariants as controlling
use Rattle.unit_book.specs.declared.entry.Entry.TheVariants.{Reset}
use Rattle.unit_book.specs.declared.step.UnitAnswer.{UnitAnswer}
use Rattle.unit_book.specs.declared.step.UnitAnswer.TheVariants as unit_answer
use Rattle.unit_book.specs.declared.step.UnitStep.{UnitStep}
use Rattle.unit_book.specs.declared.step.UnitStep.TheVariants as step
use Rattle.unit_book.specs.Steps.{ControlsBook, StepsBook}
use Rattle.unit_book.specs.declared.answer.Closing.{Closing}
use Rattle.unit_book.specs.declared.answer.Interruption.{Interruption}
use Rattle.unit_book.specs.declared.answer.Interruption.TheVariants as interrupting
use Rattle.unit_book.specs.declared.answer.Purging.{Purging}
use Rattle.unit_book.specs.declared.answer.Running.{Running}
use Rattle.unit_book.specs.declared.answer.Running.TheVariants as running
use Rattle.unit_book.specs.declared.answer.Starting.{Starting}
use Rattle.unit_book.specs.declared.answer.Starting.TheVariants as starting
use Rattle.unit_book.specs.declared.entry.Entry.{Entry}
use Rattle.unit_book.specs.declared.dcb.ProcessingMethod.{ProcessingMethod}
use Rattle.unit_book.specs.declared.entry.Mode.{Mode}
use Rattle.unit_book.specs.Answers.{Adds, Extends, InterruptsBook, MayStart, MayFirst, MayAgain, OpensBook, RunsBook, StartsBook}
use Rattle.unit_book.specs.Book.{Book}
use Rattle.unit_book.specs.Controls.{ClosesBook, ClosesBy, PurgesBook, PurgesBy, covers_awaiting}
use Rattle.unit_book.specs.Dcbs.{is_open}
use Rattle.unit_world.specs.States.{with_spare}

module _ {D : Type 0} (meaning : Meaning D) (s : ℕ) where
  adds : (old new : Book D) (e : Entry) → Adds old e new → Adds (with_spare s old) e (with_spare s new)
  adds old new e h = ap (with_spare s) h

  pub extends : (old new : Book D) (H : List Entry) (awaits : Bool) → Extends meaning old H awaits new →
      Extends meaning (with_spare s old) H awaits (with_spare s new)
  extends old new H awaits h = ap (with_spare s) h

  pub opens : (old new : Book D) (dcb : ℕ) (method : ProcessingMethod) (extents : List Extent) →
      OpensBook meaning old dcb method extents new →
      OpensBook meaning (with_spare s old) dcb method extents (with_spare s new)
  opens old new dcb method extents h = record { fits = h.fits; adds = ap (with_spare s) h.adds }

  starts : (old new : Book D) (answer : Starting) → StartsBook meaning old answer new →
      StartsBook meaning (with_spare s old) answer (with_spare s new)
  starts old new starting.Busy h = (h.0, h.1, ap (with_spare s) h.2)
  starts old new starting.Idle h = (h.0, h.1, ap (with_spare s) h.2)
  starts old new (starting.Started n) h = (may h.0, ap (with_spare s) h.1) where
    may : MayStart meaning old n → MayStart meaning (with_spare s old) n
    may (MayFirst f) = MayFirst f
    may (MayAgain a f) = MayAgain a f
  starts old new (starting.Violated n) h = (h.0, ap (with_spare s) h.1)

  runs : (old new : Book D) (max : ℕ) (answer : Running) → RunsBook meaning old max answer new →
      RunsBook meaning (with_spare s old) max answer (with_spare s new)
  runs old new max running.Quiet h = (h.0, ap (with_spare s) h.1)
  runs old new max (running.Ran commands pending) h =
      record { name = h.name; running = h.running; count = h.count; adds = ap (with_spare s) h.adds; pending_is = h.pending_is }

  interrupts : (old new : Book D) (answer : Interruption) → InterruptsBook meaning old answer new →
      InterruptsBook meaning (with_spare s old) answer (with_spare s new)
  interrupts old new interrupting.Quiet h = (h.0, ap (with_spare s) h.1)
  interrupts old new (interrupting.Again n) h = (h.0, h.1, ap (with_spare s) h.2)
  interrupts old new (interrupting.Ended n code) h =
      (h.0, record { status = h.1.status; fits = h.1.fits; extends = ap (with_spare s) h.1.extends })

  purges : (old new : Book D) (scope : Scope) (mode : Mode) (answer : Purging) → PurgesBook meaning old scope mode answer new →
      PurgesBook meaning (with_spare s old) scope mode answer (with_spare s new)
  purges old new scope mode answer h = record { purges = by_test (covers_awaiting old scope mode) h.purges; answer_is = h.answer_is } where
    by_test : (b : Bool) → PurgesBy meaning b old scope mode new → PurgesBy meaning b (with_spare s old) scope mode (with_spare s new)
    by_test false p = ap (with_spare s) p
    by_test true p = record { name = p.name; status = p.status; fits = p.fits; extends = ap (with_spare s) p.extends }

  closes : (old new : Book D) (dcb : ℕ) (answer : Closing) → ClosesBook meaning old dcb answer new →
      ClosesBook meaning (with_spare s old) dcb answer (with_spare s new)
  closes old new dcb answer h =
      record { opened = h.opened; closes = by_test (is_open dcb old.trace) h.closes; answer_is = h.answer_is } where
        by_test : (b : Bool) → ClosesBy meaning b old dcb new → ClosesBy meaning b (with_spare s old) dcb (with_spare s new)
        by_test true p = ap (with_spare s) p
        by_test false p = ap (with_spare s) p

  controls : (old new : Book D) (c : Control) (answer : Controlling) → ControlsBook meaning old c answer new →
      ControlsBook meaning (with_spare s old) c answer (with_spare s new)
  controls old new (control.Purge (Dcb dcb) mode) (controlling.Purged p) h = (h.0, purges old new (Dcb dcb) mode p h.1)
  controls old new (control.Purge (Task task) mode) (controlling.Purged p) h = purges old new (Task task) mode p h
  controls old new (control.Close dcb) (controlling.Closed c) h = closes old new dcb c h
  controls old new (control.Reset dcb) controlling.Reset h = (h.0, adds old new (Reset dcb) h.1)
  controls old new (control.Purge (Dcb dcb) mode) (controlling.Closed c) h = elim h [ ]
  controls old new (control.Purge (Dcb dcb) mode) controlling.Reset h = elim h [ ]
  controls old new (control.Purge (Task task) mode) (controlling.Closed c) h = elim h [ ]
  controls old new (control.Purge (Task task) mode) controlling.Reset h = elim h [ ]
  controls old new (control.Close dcb) (controlling.Purged p) h = elim h [ ]
  controls old new (control.Close dcb) controlling.Reset h = elim h [ ]
  controls old new (control.Reset dcb) (controlling.Purged p) h = elim h [ ]
  controls old new (control.Reset dcb) (controlling.Closed c) h = elim h [ ]

  pub steps : (old new : Book D) (t : UnitStep) (answer : UnitAnswer) → StepsBook meaning old t answer new →
      StepsBook meaning (with_spare s old) t answer (with_spare s new)
  steps old new step.Start (unit_answer.Started a) h = starts old new a h
  steps old new (step.Run max) (unit_answer.Ran a) h = (h.0, runs old new max a h.1)
  steps old new step.Interrupt (unit_answer.Interrupted a) h = interrupts old new a h
  steps old new (step.Control c) (unit_answer.Controlled a) h = controls old new c a h
  steps old new step.Start (unit_answer.Ran a) h = elim h [ ]
  steps old new step.Start (unit_answer.Interrupted a) h = elim h [ ]
  steps old new step.Start (unit_answer.Controlled a) h = elim h [ ]
  steps old new (step.Run max) (unit_answer.Started a) h = elim h [ ]
  steps old new (step.Run max) (unit_answer.Interrupted a) h = elim h [ ]
  steps old new (step.Run max) (unit_answer.Controlled a) h = elim h [ ]
  steps old new step.Interrupt (unit_answer.Started a) h = elim h [ ]
  steps old new step.Interrupt (unit_answer.Ran a) h = elim h [ ]
  steps old new step.Interrupt (unit_answer.Controlled a) h = elim h [ ]
  steps old new (step.Control c) (unit_answer.Started a) h = elim h [ ]
  steps old new (step.Control c) (unit_answer.Ran a) h = elim h [ ]
  steps old new (step.Control c) (unit_answer.Interrupted a) h = elim h [ ]
