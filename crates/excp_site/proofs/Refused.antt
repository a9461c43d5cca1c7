-- What follows of a `?` that returned.
use Rattle.std.proofs.Common.{◌≡◌, ◌==◌, ◌<◌, ◌+◌, length, ℕ, Option, ap, inl, inr, refl, subst, sym}
use Rattle.std.proofs.lemmas.Bool.{cases_Bool}
use Rattle.std.proofs.lemmas.Option.{same_Some}
use Rattle.medium_image.specs.declared.image.Kept.{Kept}
use Rattle.request_piece.specs.declared.piece.Name.{Name}
use Rattle.unit_world.specs.Parts.{next_name_from, next_name_of}
use Rattle.std.specs.Prelude.{IfErr, OnErr, OnOk, Some, None, List, [], ◌∷◌, slice_get}
use Rattle.std.specs.Result.{IsErrAnd}
use Rattle.std.specs.declared.result.Result.{Result}
use Rattle.std.specs.declared.result.Result.TheVariants.{Ok, Err}
use Rattle.any_device.specs.declared.device.AnyDevice.{AnyDevice}
use Rattle.unit_book.specs.declared.answer.DcbError.{DcbError}
use Rattle.unit_book.specs.declared.answer.DcbError.TheVariants as dcbs
use Rattle.any_device.specs.Devices.{any_device}
use Rattle.unit_book.specs.Steps.{StepLacks, StepRefused}
use Rattle.request_piece.specs.declared.scope.Scope.TheVariants.{Dcb, Task}
use Rattle.unit_book.specs.declared.control.Control.TheVariants as control
use Rattle.unit_book.specs.declared.step.UnitStep.{UnitStep}
use Rattle.unit_book.specs.declared.step.UnitStep.TheVariants as step
use Rattle.unit_world.specs.Sites.{SiteState, OnPart}
use Rattle.excp_site.specs.Refusals.{HasNumbersOf, NumbersRefused, StepCallRefused, of_dcb}
use Rattle.excp_site.specs.Sites.{SiteView}
use Rattle.excp_site.specs.declared.refusal.Refusal.{Refusal}
use Rattle.excp_site.specs.declared.refusal.Refusal.TheVariants.{NoDcb, NoMemory}

pub refuses : {X : Type 0} (r : Result X Refusal) (e : Refusal) (P : Refusal → Type 0) → IsErrAnd r (λ f. f ≡ e) → P e → IfErr r P
refuses (Ok x) e P h p = tt
refuses (Err f) e P h p = subst P (sym h) p

pub step-refuses : {X : Type 0} (r : Result X Refusal) (error : DcbError) (s : SiteState AnyDevice) (unit : ℕ) (t : UnitStep) →
    IsErrAnd r (λ f. f ≡ of_dcb error) → HasNumbersOf s t → unit < length s.units → OnPart s unit (λ p. StepRefused p.book t error) →
    OnPart s unit (λ p. error ≡ dcbs.NoMemory → StepLacks any_device p.book t) → IfErr r (StepCallRefused s unit t)
step-refuses r dcbs.NoSuchDcb s unit t h numbers there refused full =
    refuses r NoDcb (StepCallRefused s unit t) h (numbers, (there, refused))
step-refuses r dcbs.NoMemory s unit t h numbers there refused full =
    refuses r NoMemory (StepCallRefused s unit t) h (numbers, (there, λ p at. (refused p at, full p at refl)))

-- the numbers of a step are refused as the step is
pub numbers-refuse : {X : Type 0} (r : Result X Refusal) (error : Refusal) (s : SiteState AnyDevice) (unit : ℕ) (t : UnitStep) →
    IsErrAnd r (λ f. f ≡ error) → unit < length s.units → NumbersRefused s t error → IfErr r (StepCallRefused s unit t)
numbers-refuse r error s unit t h there why = refuses r error (StepCallRefused s unit t) h (of t why) where
  of : (u : UnitStep) → NumbersRefused s u error → StepCallRefused s unit u error
  of (step.Run max) why = subst (StepCallRefused s unit (step.Run max)) (sym why.0) (there, (refl, why.1))
  of (step.Control (control.Purge (Task task) mode)) why =
      subst (StepCallRefused s unit (step.Control (control.Purge (Task task) mode))) (sym why.0) (there, (refl, why.1))
  of (step.Control (control.Purge (Dcb dcb) mode)) why = elim why [ ]
  of (step.Control (control.Close dcb)) why = elim why [ ]
  of (step.Control (control.Reset dcb)) why = elim why [ ]
  of step.Start why = elim why [ ]
  of step.Interrupt why = elim why [ ]

-- a list without a first item
pub no-first : {X : Type 0} (xs : List X) → slice_get xs 0 ≡ None → xs ≡ []
no-first [] h = refl
no-first (x ∷ xs) h = absurd cc

-- the next name of a task is one of this task
pub next-of-task : (issued : List ℕ) (task : ℕ) (name : Name) → next_name_of issued task ≡ Some name →
    next_name_of issued name.task ≡ Some name
next-of-task issued task name h = subst (λ t. next_name_of issued t ≡ Some name) (of (slice_get issued task) h) h where
  of : (count : Option ℕ) → next_name_from task count ≡ Some name → task ≡ name.task
  of None e = absurd cc
  of (Some count) e = elim (cases_Bool (count == 4294967295)) [
    | inl f ↦ let g : None ≡ Some name = rw f at e in absurd cc
    | inr f ↦
        let g : Some (record { task = task; seq = count + 1 }) ≡ Some name = rw f at e in
        ap (λ (n : Name). n.task) (same_Some (record { task = task; seq = count + 1 }) name g)
  ]

-- what an error leaves
pub errs : {X E : Type 0} (r : Result X E) (P : Type 0) → P → OnErr r P
errs (Ok x) P p = tt
errs (Err e) P p = p

-- a site whose lists by unit have the same items
pub same-lists : (s : SiteView) (earlier : List (List ℕ)) (beside : List (Option Kept)) → earlier ≡ s.earlier → beside ≡ s.beside →
    record s { earlier = earlier; beside = beside } ≡ s
same-lists s earlier beside e b = rw (e, b) refl

-- what a success says
pub oks : {X E : Type 0} (r : Result X E) (P : Type 0) → P → OnOk r P
oks (Ok x) P p = p
oks (Err e) P p = tt
