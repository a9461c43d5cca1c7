-- ONE STEP OF A BOOK: which of its calls, what that does and answers, and when it is refused (profile).
use Rattle.std.specs.Prelude.{◌≡◌, ◌≤◌, true}
use Rattle.device_port.specs.Meaning.{Meaning}
use Rattle.request_piece.specs.declared.scope.Scope.TheVariants.{Dcb, Task}
use Rattle.unit_book.specs.declared.answer.DcbError.{DcbError}
use Rattle.unit_book.specs.declared.answer.DcbError.TheVariants.{NoMemory}
use Rattle.unit_book.specs.declared.control.Control.{Control}
use Rattle.unit_book.specs.declared.control.Control.TheVariants as control
use Rattle.unit_book.specs.declared.control.Controlling.{Controlling}
use Rattle.unit_book.specs.declared.control.Controlling.TheVariants as controlling
use Rattle.unit_book.specs.declared.entry.Entry.TheVariants as entry
use Rattle.unit_book.specs.declared.step.UnitAnswer.{UnitAnswer}
use Rattle.unit_book.specs.declared.step.UnitAnswer.TheVariants.{Started, Ran, Interrupted, Controlled}
use Rattle.unit_book.specs.declared.step.UnitStep.{UnitStep}
use Rattle.unit_book.specs.declared.step.UnitStep.TheVariants.{Start, Run, Interrupt, Control as ByControl}
use Rattle.unit_book.specs.Answers.{Adds, InterruptsBook, RunsBook, StartsBook}
use Rattle.unit_book.specs.Book.{Book}
use Rattle.unit_book.specs.Controls.{ClosesBook, DcbRefused, PurgesBook, ResetRefused}
use Rattle.unit_book.specs.Dcbs.{is_open, is_opened}
use Rattle.unit_book.specs.Refusals.{CloseLacks, InterruptLacks, PurgeLacks, ResetLacks, RunLacks, StartLacks}

-- a run has at least one command
abbrev pub IsStep : UnitStep → Type 0
IsStep (Run max) = 1 ≤ max
IsStep _ = Unit {0}

-- when a control is refused: a purge of a task only if memory runs out, and each other as the call of the book
abbrev pub ControlRefused : {D : Type 0} → Book D → Control → DcbError → Type 0
ControlRefused b (control.Purge (Dcb dcb) mode) error = DcbRefused b dcb error
ControlRefused b (control.Purge (Task task) mode) error = error ≡ NoMemory
ControlRefused b (control.Close dcb) error = DcbRefused b dcb error
ControlRefused b (control.Reset dcb) error = ResetRefused b dcb error

-- when a step is refused: only a control for another reason than memory
abbrev pub StepRefused : {D : Type 0} → Book D → UnitStep → DcbError → Type 0
StepRefused b (ByControl c) error = ControlRefused b c error
StepRefused b _ error = error ≡ NoMemory

-- when a control wants memory
abbrev pub ControlLacks : {D : Type 0} → Book D → Control → Type 0
ControlLacks b (control.Purge scope mode) = PurgeLacks b
ControlLacks b (control.Close dcb) = CloseLacks b dcb
ControlLacks b (control.Reset dcb) = ResetLacks b

module _ {D : Type 0} (meaning : Meaning D) where
  -- when a step wants memory
  abbrev pub StepLacks : Book D → UnitStep → Type 0
  StepLacks b Start = StartLacks meaning b
  StepLacks b (Run max) = RunLacks meaning b
  StepLacks b Interrupt = InterruptLacks meaning b
  StepLacks b (ByControl c) = ControlLacks b c

  -- WHAT A CONTROL DOES to a book, by its answer
  abbrev pub ControlsBook : Book D → Control → Controlling → Book D → Type 0
  ControlsBook old (control.Purge (Dcb dcb) mode) (controlling.Purged p) new =
      (is_opened dcb old.trace ≡ true) × PurgesBook meaning old (Dcb dcb) mode p new
  ControlsBook old (control.Purge (Task task) mode) (controlling.Purged p) new = PurgesBook meaning old (Task task) mode p new
  ControlsBook old (control.Close dcb) (controlling.Closed c) new = ClosesBook meaning old dcb c new
  ControlsBook old (control.Reset dcb) controlling.Reset new = (is_open dcb old.trace ≡ true) × Adds old (entry.Reset dcb) new
  ControlsBook old c answer new = ⊥

  -- WHAT A STEP DOES to a book, by its answer
  abbrev pub StepsBook : Book D → UnitStep → UnitAnswer → Book D → Type 0
  StepsBook old Start (Started answer) new = StartsBook meaning old answer new
  StepsBook old (Run max) (Ran answer) new = (1 ≤ max) × RunsBook meaning old max answer new
  StepsBook old Interrupt (Interrupted answer) new = InterruptsBook meaning old answer new
  StepsBook old (ByControl c) (Controlled answer) new = ControlsBook old c answer new
  StepsBook old step answer new = ⊥
