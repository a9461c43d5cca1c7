-- A unit that stands still.
use Rattle.std.proofs.Common.{◌≡◌, ◌≢◌, ◌⊎◌, ◌∙◌, ◌≤◌, ℕ, Bool, true, false, Option, None, Some, List, [], ◌∷◌, ap, inl, inr, refl, subst, suc, sym, zero}
use Rattle.std.specs.Prelude.{IsSome, slice_get, slice_set}
use Rattle.std.proofs.lemmas.Bool.{cases_Bool}
use Rattle.std.proofs.lemmas.Option.{same_Some}
use Rattle.any_device.specs.Devices.{any_device}
use Rattle.any_device.specs.declared.device.AnyDevice.{AnyDevice}
use Rattle.request_piece.specs.declared.piece.Name.{Name}
use Rattle.unit_book.specs.Steps.{StepsBook}
use Rattle.unit_book.specs.Book.{Book, is_pending, occupancy, pending_by, running_name, running_name_by}
use Rattle.unit_book.specs.Media.{active_phase, still_runs}
use Rattle.unit_book.specs.Settle.{IsIdle}
use Rattle.unit_book.specs.Trace.{active}
use Rattle.unit_book.specs.declared.answer.Delivery.{Delivery}
use Rattle.unit_book.specs.declared.answer.Delivery.TheVariants as delivery
use Rattle.unit_book.specs.declared.answer.Intake.{Intake}
use Rattle.unit_book.specs.declared.answer.Intake.TheVariants as intake
use Rattle.unit_book.specs.declared.answer.Interruption.TheVariants as interruption
use Rattle.unit_book.specs.declared.answer.Running.TheVariants as running
use Rattle.unit_book.specs.declared.answer.Starting.TheVariants as starting
use Rattle.unit_book.specs.declared.step.UnitAnswer.{UnitAnswer}
use Rattle.unit_book.specs.declared.step.UnitAnswer.TheVariants as answer
use Rattle.unit_book.specs.declared.step.UnitStep.TheVariants as step
use Rattle.unit_world.specs.Parts.{UnitPart, PartTakes}
use Rattle.unit_world.specs.Sites.{SiteState, DeliversAs, OnBook, OnPart, OnUnit}
use Rattle.excp_site.specs.Serving.{IsQuiet, IsStill, changed_nothing}

get-set : {X : Type 0} (xs : List X) (i : ℕ) (x y : X) → slice_get xs i ≡ Some x → slice_get (slice_set xs i y) i ≡ Some y
get-set [] i x y h = absurd cc
get-set (z ∷ zs) zero x y h = refl
get-set (z ∷ zs) (suc i) x y h = get-set zs i x y h

-- the unit after a step
at-after : (old : SiteState AnyDevice) (unit : ℕ) (Does : UnitPart AnyDevice → UnitPart AnyDevice → Type 0) (new : SiteState AnyDevice)
    → (did : OnUnit old unit Does new) → slice_get new.units unit ≡ Some did.after
at-after old unit Does new did =
    ap (λ (s : SiteState AnyDevice). slice_get s.units unit) did.is ∙ get-set old.units unit did.before did.after did.at

-- what does not take leaves nothing in flight, or no room for it
takes-none : (p q : UnitPart AnyDevice) (answer : Intake) → ((name : Name) → answer ≢ intake.Took name) → PartTakes any_device p answer q
    → (q.flight ≡ []) ⊎ (q.book.capacity ≤ occupancy q.book)
takes-none p q intake.Held never h = inr (rw h.1 h.0)
takes-none p q intake.Quiet never h = inl (ap (λ (x : UnitPart AnyDevice). x.flight) h.2 ∙ h.1)
takes-none p q (intake.Took name) never h = absurd (never name refl)

-- what does not start, run or interrupt changes nothing
start-stays : (b c : Book AnyDevice) (a : UnitAnswer) → changed_nothing a ≡ true → StepsBook any_device b step.Start a c → c ≡ b
start-stays b c (answer.Started starting.Busy) e h = h.2
start-stays b c (answer.Started starting.Idle) e h = h.2
start-stays b c (answer.Started (starting.Started n)) e h = absurd cc
start-stays b c (answer.Started (starting.Violated n)) e h = absurd cc
start-stays b c (answer.Ran a) e h = elim h [ ]
start-stays b c (answer.Interrupted a) e h = elim h [ ]
start-stays b c (answer.Controlled a) e h = elim h [ ]

run-stays : (b c : Book AnyDevice) (max : ℕ) (a : UnitAnswer) → changed_nothing a ≡ true → StepsBook any_device b (step.Run max) a c
    → (running_name any_device b ≡ None) × (c ≡ b)
run-stays b c max (answer.Ran running.Quiet) e h = h.1
run-stays b c max (answer.Ran (running.Ran commands pending)) e h = absurd cc
run-stays b c max (answer.Started a) e h = elim h [ ]
run-stays b c max (answer.Interrupted a) e h = elim h [ ]
run-stays b c max (answer.Controlled a) e h = elim h [ ]

interrupt-stays : (b c : Book AnyDevice) (a : UnitAnswer) → changed_nothing a ≡ true → StepsBook any_device b step.Interrupt a c
    → (is_pending any_device b ≡ false) × (c ≡ b)
interrupt-stays b c (answer.Interrupted interruption.Quiet) e h = h
interrupt-stays b c (answer.Interrupted (interruption.Again name)) e h = absurd cc
interrupt-stays b c (answer.Interrupted (interruption.Ended name code)) e h = absurd cc
interrupt-stays b c (answer.Started a) e h = elim h [ ]
interrupt-stays b c (answer.Ran a) e h = elim h [ ]
interrupt-stays b c (answer.Controlled a) e h = elim h [ ]

-- a request that is active runs, is pending or awaits its restart
no-active : (b : Book AnyDevice) (o : Option Name) (awaits : Bool) → IsSome o → awaits ≡ false
    → running_name_by any_device b.mounted b.trace o ≡ None → pending_by any_device b.mounted b.trace awaits o ≡ false → ⊥
no-active b None awaits s a r p = absurd cc
no-active b (Some n) awaits s a r p = elim (cases_Bool (still_runs (active_phase any_device b.mounted n b.trace))) [
  | inl y ↦ let e : Some n ≡ None = rw y at r in absurd cc
  | inr z ↦ let e : true ≡ false = rw (z, a) at p in absurd cc
]

idle-book : (b c : Book AnyDevice) (a : UnitAnswer) → changed_nothing a ≡ true → StepsBook any_device b step.Start a c
    → running_name any_device b ≡ None → is_pending any_device b ≡ false → IsIdle b.trace
idle-book b c (answer.Started starting.Busy) e h r p = absurd (no-active b (active b.trace) b.awaits h.0 h.1 r p)
idle-book b c (answer.Started starting.Idle) e h r p = record { none_waits = h.1; none_active = h.0 }
idle-book b c (answer.Started (starting.Started n)) e h r p = absurd cc
idle-book b c (answer.Started (starting.Violated n)) e h r p = absurd cc
idle-book b c (answer.Ran a) e h r p = elim h [ ]
idle-book b c (answer.Interrupted a) e h r p = elim h [ ]
idle-book b c (answer.Controlled a) e h r p = elim h [ ]

deliver-stays : (old : SiteState AnyDevice) (unit : ℕ) (answer : Delivery) (new : SiteState AnyDevice)
    → ((name : Name) → answer ≢ delivery.Delivered name) → DeliversAs old unit answer new → new ≡ old
deliver-stays old unit delivery.Quiet new never h = h.1
deliver-stays old unit (delivery.Delivered name) new never h = absurd (never name refl)
deliver-stays old unit (delivery.Full name) new never h = h.is

-- the next step begins with what the last one left
joined : (old mid new : SiteState AnyDevice) (unit : ℕ) (P Q : UnitPart AnyDevice → UnitPart AnyDevice → Type 0) (first : OnUnit old unit P mid)
    → (next : OnUnit mid unit Q new) → next.before ≡ first.after
joined old mid new unit P Q first next = same_Some next.before first.after (sym next.at ∙ at-after old unit P mid first)

same-part : (p q : UnitPart AnyDevice) → q ≡ record p { book = q.book } → q.book ≡ p.book → q ≡ p
same-part p q e same = e ∙ ap (λ (b : Book AnyDevice). record p { book = b }) same

-- A TURN IN WHICH NOTHING HAPPENS leaves a unit that stands still
pub stands : (s0 s1 s2 s3 s4 s5 : SiteState AnyDevice) (unit max : ℕ) (taken : Intake) (started ran interrupted : UnitAnswer) (delivered : Delivery)
    → IsQuiet taken started ran interrupted delivered → OnUnit s0 unit (λ p q. PartTakes any_device p taken q) s1
    → OnBook s1 unit (λ b c. StepsBook any_device b step.Start started c) s2 → OnBook s2 unit (λ b c. StepsBook any_device b (step.Run max) ran c) s3
    → OnBook s3 unit (λ b c. StepsBook any_device b step.Interrupt interrupted c) s4 → DeliversAs s4 unit delivered s5 → OnPart s5 unit IsStill
stands s0 s1 s2 s3 s4 s5 unit max taken started ran interrupted delivered quiet t s r i d =
    let Takes = λ (p q : UnitPart AnyDevice). PartTakes any_device p taken q in
    let On = λ (Does : Book AnyDevice → Book AnyDevice → Type 0) (p q : UnitPart AnyDevice). Does p.book q.book × (q ≡ record p { book = q.book }) in
    let Starts = On (λ b c. StepsBook any_device b step.Start started c) in
    let Runs = On (λ b c. StepsBook any_device b (step.Run max) ran c) in
    let Interrupts = On (λ b c. StepsBook any_device b step.Interrupt interrupted c) in
    let p = t.after in
    let s_before : s.before ≡ p = joined s0 s1 s2 unit Takes Starts t s in
    let s_after : s.after ≡ p =
    same-part s.before s.after s.does.1 (start-stays s.before.book s.after.book started quiet.starts_none s.does.0) ∙ s_before in
    let r_before : r.before ≡ p = joined s1 s2 s3 unit Starts Runs s r ∙ s_after in
    let rests = run-stays r.before.book r.after.book max ran quiet.runs_none r.does.0 in
    let r_after : r.after ≡ p = same-part r.before r.after r.does.1 rests.1 ∙ r_before in
    let i_before : i.before ≡ p = joined s2 s3 s4 unit Runs Interrupts r i ∙ r_after in
    let none = interrupt-stays i.before.book i.after.book interrupted quiet.interrupts_none i.does.0 in
    let i_after : i.after ≡ p = same-part i.before i.after i.does.1 none.1 ∙ i_before in
    let begins = subst (λ (x : UnitPart AnyDevice). StepsBook any_device x.book step.Start started s.after.book) s_before s.does.0 in
    let no_run = subst (λ (x : UnitPart AnyDevice). running_name any_device x.book ≡ None) r_before rests.0 in
    let no_status = subst (λ (x : UnitPart AnyDevice). is_pending any_device x.book ≡ false) i_before none.0 in
    let still : IsStill p = record {
      idle = idle-book p.book s.after.book started quiet.starts_none begins no_run no_status;
      flight = takes-none t.before p taken quiet.takes_none t.does;
    } in
    let same = deliver-stays s4 unit delivered s5 quiet.delivers_none d in
    let now : slice_get s5.units unit ≡ Some p =
    ap (λ (x : SiteState AnyDevice). slice_get x.units unit) same ∙ at-after s3 unit Interrupts s4 i ∙ ap Some i_after in
    λ part at. subst IsStill (same_Some p part (sym now ∙ at)) still
