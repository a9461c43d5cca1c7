-- A unit's log keeps the controls of its trace: what a call adds to the trace is of no control, or of the one that was
-- asked.
use Rattle.std.proofs.Common.{◌≡◌, ◌∙◌, ℕ, Bool, true, false, not, List, [], ◌∷◌, ◌++◌, refl, sym, ap, subst, inl, inr}
use Rattle.std.specs.Prelude.{◌&&◌, Some, Result, Ok, Err, IfErr, IfOk, OnErr, is_ok, slice_get}
use Rattle.std.specs.List.{list_all}
use Rattle.std.proofs.lemmas.Bool.{cases_Bool}
use Rattle.io_images.specs.Images.{no_status}
use Rattle.io_images.specs.declared.code.Code.TheVariants.{ExtentViolated, Purged}
use Rattle.io_images.specs.declared.extent.Extent.{Extent}
use Rattle.device_port.specs.Meaning.{Meaning}
use Rattle.request_piece.specs.PostedState.{PostedState}
use Rattle.request_piece.specs.declared.piece.Piece.{Piece}
use Rattle.request_piece.specs.declared.scope.Scope.{Scope}
use Rattle.request_piece.specs.declared.scope.Scope.TheVariants.{Dcb, Task}
use Rattle.unit_book.specs.declared.answer.DcbError.{DcbError}
use Rattle.unit_book.specs.declared.answer.DcbError.TheVariants.{NoSuchDcb, NoMemory}
use Rattle.unit_book.specs.declared.answer.Starting.{Starting}
use Rattle.unit_book.specs.declared.answer.Starting.TheVariants as starting
use Rattle.unit_book.specs.declared.answer.Running.{Running}
use Rattle.unit_book.specs.declared.answer.Running.TheVariants as running
use Rattle.unit_book.specs.declared.answer.Interruption.{Interruption}
use Rattle.unit_book.specs.declared.answer.Interruption.TheVariants as interrupting
use Rattle.unit_book.specs.declared.answer.Purging.{Purging}
use Rattle.unit_book.specs.declared.answer.Closing.{Closing}
use Rattle.unit_book.specs.declared.dcb.ProcessingMethod.{ProcessingMethod}
use Rattle.unit_book.specs.declared.entry.Mode.{Mode}
use Rattle.unit_book.specs.declared.entry.Entry.{Entry}
use Rattle.unit_book.specs.declared.entry.Entry.TheVariants.{Opened, Arrive, Start, Ran, Halted, Purge, Close, Reset, Post}
use Rattle.unit_book.specs.Answers.{Adds, Extends, InterruptsBook, OpensBook, RunsBook, StartsBook}
use Rattle.unit_book.specs.Book.{Book}
use Rattle.unit_book.specs.Controls.{ClosesBook, ClosesBy, PurgesBook, PurgesBy, after_purge, covers_awaiting, halted_by}
use Rattle.unit_book.specs.Dcbs.{doomed, is_closed, is_open}
use Rattle.unit_book.specs.Dooms.{after_dooms, all_posted}
use Rattle.unit_book.specs.Legal.{Due, Free, ToHalt, ToPost, due}
use Rattle.unit_book.specs.Settle.{AddsService, is_service}
use Rattle.unit_book.proofs.WorldBooks.{Keeps, Sound, keeps-close, keeps-purge, keeps-reset}
use Rattle.signed_list.specs.Signed.{items_of}
use Rattle.excp_system.specs.Begun.{Continues}
use Rattle.unit_book.specs.declared.control.Control.{Control}
use Rattle.unit_book.specs.declared.control.Control.TheVariants as control
use Rattle.unit_book.specs.declared.control.Controlling.{Controlling}
use Rattle.unit_book.specs.declared.control.Controlling.TheVariants as controlling
use Rattle.unit_book.specs.Steps.{ControlRefused, ControlsBook}
use Rattle.excp_system.specs.Controls.{Begins, Controlled, Goes, KeepsLog, LogState, Makes, MakesNone, Opens, is_asked, is_quiet, logged, makes_none}
use Rattle.excp_system.specs.Sites.{SiteRows}
use Rattle.excp_system.proofs.Begins.{continues_adds, continues_closes, continues_purges}

-- A TRACE THAT GROWS BY NO CONTROL keeps its controls
abbrev pub KeepsControls : Bool → List Entry → List Entry → Type 0
KeepsControls own_calls H G = (first : List Entry) (asked : List Control) → Controlled own_calls first asked H →
    Controlled own_calls first asked G

abbrev pub Quietly : List Entry → List Entry → Type 0
Quietly H G = (own_calls : Bool) → KeepsControls own_calls H G

quietly_one : (e : Entry) (H : List Entry) → is_quiet e ≡ true → Quietly H (e ∷ H)
quietly_one e H none own_calls first asked k = Goes e none k

quietly_posts : (rs : List Piece) (H : List Entry) → Quietly H (all_posted rs H)
quietly_posts [] H own_calls first asked k = k
quietly_posts (r ∷ rs) H own_calls first asked k =
    quietly_posts rs (Post r.name no_status 0 Purged ∷ H) own_calls first asked (Goes (Post r.name no_status 0 Purged) refl k)

quietly_halted : (d : Due) (H : List Entry) → Quietly H (halted_by d H)
quietly_halted (ToHalt n) H own_calls first asked k = Goes (Halted n) refl k
quietly_halted (ToPost n) H own_calls first asked k = k
quietly_halted Free H own_calls first asked k = k

-- by an entry that is of no control, and the posts of what it dooms
quietly_dooms : (e : Entry) (H : List Entry) → is_quiet e ≡ true → Quietly H (after_dooms (e ∷ H))
quietly_dooms e H none own_calls first asked k = quietly_posts (doomed (e ∷ H)) (e ∷ H) own_calls first asked (Goes e none k)

service_is_quiet : (e : Entry) → is_service e ≡ true → is_quiet e ≡ true
service_is_quiet (Start n) is = refl
service_is_quiet (Ran n j) is = refl
service_is_quiet (Post n csw sense code) is = refl
service_is_quiet (Opened d m x) is = absurd cc
service_is_quiet (Arrive r) is = absurd cc
service_is_quiet (Halted n) is = absurd cc
service_is_quiet (Purge s m) is = absurd cc
service_is_quiet (Close d) is = absurd cc
service_is_quiet (Reset d) is = absurd cc

first_of_all : (a b : Bool) → (a && b) ≡ true → a ≡ true
first_of_all true b is = refl
first_of_all false b is = is

rest_of_all : (a b : Bool) → (a && b) ≡ true → b ≡ true
rest_of_all true b is = is
rest_of_all false b is = absurd cc

quietly_served : (later H : List Entry) → list_all is_service later ≡ true → Quietly H (later ++ H)
quietly_served [] H only own_calls first asked k = k
quietly_served (e ∷ later) H only own_calls first asked k =
    Goes e (service_is_quiet e (first_of_all (is_service e) (list_all is_service later) only))
    (quietly_served later H (rest_of_all (is_service e) (list_all is_service later) only) own_calls first asked k)

pub items_snoc : {I : Type 0} (all : List (ℕ × I)) (p : ℕ × I) → items_of (all ++ p ∷ []) ≡ items_of all ++ p.1 ∷ []
unfolding items_of
items_snoc [] p = refl
items_snoc (y ∷ all) p = ap (λ l. y.1 ∷ l) (items_snoc all p)

-- A CONTROL, which is asked: the trace has its entry, or it makes none
abbrev pub IsAsked : Control → List Entry → List Entry → Type 0
IsAsked c H G = (own_calls : Bool) (first : List Entry) (asked : List Control) → Controlled own_calls first asked H →
    Controlled own_calls first (asked ++ c ∷ []) G

-- the log of a unit whose trace grew by no control, or by one that was asked
module _ {D : Type 0} {s : SiteRows} {own_calls : Bool} {opened : List (Book D)} {unit : ℕ} {l : LogState} {H G : List Entry} where
  pub log_goes : KeepsLog s own_calls opened unit l H → KeepsControls own_calls H G → KeepsLog s own_calls opened unit l G
  log_goes is goes = record {
    register = is.register;
    first = is.first;
    is = is.is;
    controlled = goes is.first.trace (items_of l.asked) is.controlled;
  }

  pub log_quietly : KeepsLog s own_calls opened unit l H → Quietly H G → KeepsLog s own_calls opened unit l G
  log_quietly is q = log_goes is (q own_calls)

  log_asked : (number : ℕ) (c : Control) → KeepsLog s own_calls opened unit l H → IsAsked c H G →
      KeepsLog s own_calls opened unit (logged true number c l) G
  log_asked number c is made = record {
    register = is.register;
    first = is.first;
    is = is.is;
    controlled = subst (λ cs. Controlled own_calls is.first.trace cs G) (sym (items_snoc l.asked (number, c)))
        (made own_calls is.first.trace (items_of l.asked) is.controlled);
  }

-- a unit's log begins with nothing asked, and with the trace of the book that was handed in
pub log_begins : {D : Type 0} (s : SiteRows) (own_calls : Bool) (opened : List (Book D)) (unit number : ℕ) (l : LogState)
    (b : Book D) → number ≡ unit → l ≡ record { register = s.register unit; asked = [] } → slice_get opened number ≡ Some b → KeepsLog s own_calls opened number l b.trace
unfolding items_of
log_begins s own_calls opened unit number l b same log here = record {
  register = ap (λ (x : LogState). x.register) log ∙ ap s.register (sym same);
  first = b;
  is = here;
  controlled = subst (λ (x : LogState). Controlled own_calls b.trace (items_of x.asked) b.trace) (sym log) Begins;
}

module _ {D : Type 0} where
  quietly_same : (old new : Book D) → new ≡ old → Quietly old.trace new.trace
  quietly_same old new same own_calls first asked k = subst (λ (b : Book D). Controlled own_calls first asked b.trace) (sym same) k

  quietly_to : (old new : Book D) {H : List Entry} → new.trace ≡ H → Quietly old.trace H → Quietly old.trace new.trace
  quietly_to old new is q own_calls first asked k = subst (Controlled own_calls first asked) (sym is) (q own_calls first asked k)

  -- a call that changes nothing where it is refused
  pub log_call : {A E : Type 0} {s : SiteRows} {own_calls : Bool} {opened : List (Book D)} {unit : ℕ} {l : LogState} (r : Result A E) {Done : A → Type 0}
      (old new : Book D) → KeepsLog s own_calls opened unit l old.trace → IfOk r Done → OnErr r (new ≡ old) →
      ((a : A) → Done a → Quietly old.trace new.trace) → KeepsLog s own_calls opened unit l new.trace
  log_call (Ok a) old new is done refused goes = log_quietly is (goes a done)
  log_call (Err e) old new is done refused goes = log_quietly is (quietly_same old new refused)

  pub quietly_again : (old new : Book D) (again : Bool) → new ≡ record old { awaits = again; spare = new.spare } →
      Quietly old.trace new.trace
  quietly_again old new again same = quietly_to old new (ap (λ (b : Book D). b.trace) same) (λ own_calls first asked k. k)

  -- a value that is taken out
  pub quietly_out : (old new : Book D) (out : List PostedState) → new ≡ record old { out = out } → Quietly old.trace new.trace
  quietly_out old new out same = quietly_to old new (ap (λ (b : Book D). b.trace) same) (λ own_calls first asked k. k)

  quietly_adds : (old new : Book D) (e : Entry) → is_quiet e ≡ true → Adds old e new → Quietly old.trace new.trace
  quietly_adds old new e none same = quietly_to old new (ap (λ (b : Book D). b.trace) same) (quietly_one e old.trace none)

  pub quietly_settles : (old new : Book D) → AddsService old.trace new.trace → Quietly old.trace new.trace
  quietly_settles old new adds = quietly_to old new adds.is (quietly_served adds.later old.trace adds.only)

  module _ (meaning : Meaning D) where
    pub quietly_arrives : (old new : Book D) {again : Bool} (r : Piece) →
        Extends meaning old (after_dooms (Arrive r ∷ old.trace)) again new → Quietly old.trace new.trace
    quietly_arrives old new r same = quietly_to old new (ap (λ (b : Book D). b.trace) same) (quietly_dooms (Arrive r) old.trace refl)

    pub keeps_opens : (own_calls : Bool) (old new : Book D) {dcb : ℕ} {method : ProcessingMethod} {extents : List Extent} →
        own_calls ≡ true → OpensBook meaning old dcb method extents new → KeepsControls own_calls old.trace new.trace
    keeps_opens own_calls old new {dcb} {method} {extents} may h first asked k =
        subst (Controlled own_calls first asked) (sym (ap (λ (b : Book D). b.trace) h.adds)) (Opens (Opened dcb method extents) may refl k)

    pub quietly_starts : (old new : Book D) (answer : Starting) → StartsBook meaning old answer new → Quietly old.trace new.trace
    quietly_starts old new starting.Busy h = quietly_same old new h.2
    quietly_starts old new starting.Idle h = quietly_same old new h.2
    quietly_starts old new (starting.Started n) h =
        quietly_to old new (ap (λ (b : Book D). b.trace) h.1) (quietly_one (Start n) old.trace refl)
    quietly_starts old new (starting.Violated n) h =
        quietly_to old new (ap (λ (b : Book D). b.trace) h.1) (quietly_dooms (Post n no_status 0 ExtentViolated) old.trace refl)

    pub quietly_runs : (old new : Book D) (max : ℕ) (answer : Running) → RunsBook meaning old max answer new → Quietly old.trace new.trace
    quietly_runs old new max running.Quiet h = quietly_same old new h.1
    quietly_runs old new max (running.Ran commands pending) h = quietly_adds old new (Ran h.name commands) refl h.adds

    pub quietly_interrupts : (old new : Book D) (answer : Interruption) → InterruptsBook meaning old answer new →
        Quietly old.trace new.trace
    quietly_interrupts old new interrupting.Quiet h = quietly_same old new h.1
    quietly_interrupts old new (interrupting.Again n) h = quietly_again old new true h.2
    quietly_interrupts old new (interrupting.Ended n code) h =
        quietly_to old new (ap (λ (b : Book D). b.trace) h.1.extends)
        (quietly_dooms (Post n h.1.status.csw h.1.status.sense code) old.trace refl)

    purge_made : (mounted : D) (scope : Scope) (mode : Mode) (H : List Entry) →
        IsAsked (control.Purge scope mode) H (after_purge meaning mounted scope mode H)
    purge_made mounted scope mode H own_calls first asked k =
        let G = Purge scope mode ∷ H in
        let K = halted_by (due meaning mounted G) G in
        let more = asked ++ control.Purge scope mode ∷ [] in
        quietly_posts (doomed K) K own_calls first more
        (quietly_halted (due meaning mounted G) G own_calls first more (Makes (control.Purge scope mode) (Purge scope mode) refl k))

    pub purge_is : (old new : Book D) {scope : Scope} {mode : Mode} {answer : Purging} → PurgesBook meaning old scope mode answer new →
        IsAsked (control.Purge scope mode) old.trace new.trace
    purge_is old new {scope} {mode} h own_calls first asked k = by_test (covers_awaiting old scope mode) h.purges where
      more : List Control
      more = asked ++ control.Purge scope mode ∷ []

      made : Controlled own_calls first more (after_purge meaning old.mounted scope mode old.trace)
      made = purge_made old.mounted scope mode old.trace own_calls first asked k

      by_test : (b : Bool) → PurgesBy meaning b old scope mode new → Controlled own_calls first more new.trace
      by_test false p = subst (Controlled own_calls first more) (sym (ap (λ (b : Book D). b.trace) p)) made
      by_test true p = subst (Controlled own_calls first more) (sym (ap (λ (b : Book D). b.trace) p.extends))
          (Goes (Post p.name p.status.csw p.status.sense Purged) refl made)

    pub close_is : (old new : Book D) {dcb : ℕ} {answer : Closing} → ClosesBook meaning old dcb answer new →
        IsAsked (control.Close dcb) old.trace new.trace
    close_is old new {dcb} h own_calls first asked k =
        let more = asked ++ control.Close dcb ∷ [] in
        elim (cases_Bool (is_open dcb old.trace)) [
          | inl o ↦
              let p : ClosesBy meaning true old dcb new = subst (λ b. ClosesBy meaning b old dcb new) o h.closes in
              let G = Close dcb ∷ old.trace in
              subst (Controlled own_calls first more) (sym (ap (λ (b : Book D). b.trace) p))
              (quietly_posts (doomed G) G own_calls first more (Makes (control.Close dcb) (Close dcb) refl k))
          | inr o ↦
              let p : ClosesBy meaning false old dcb new = subst (λ b. ClosesBy meaning b old dcb new) o h.closes in
              quietly_same old new p own_calls first more (MakesNone (control.Close dcb) (ap not o) k)
        ]

    pub reset_is : (old new : Book D) {dcb : ℕ} → Adds old (Reset dcb) new → IsAsked (control.Reset dcb) old.trace new.trace
    reset_is old new {dcb} h own_calls first asked k =
        subst (Controlled own_calls first (asked ++ control.Reset dcb ∷ [])) (sym (ap (λ (b : Book D). b.trace) h))
        (Makes (control.Reset dcb) (Reset dcb) refl k)

    -- what follows of a control that a task asked
    pub record Does (old new : Book D) (c : Control) : Type 0 where
      pub keeps : Sound meaning old → Keeps meaning old [] new
      pub continues : Continues old new
      pub is_asked : IsAsked c old.trace new.trace

    pub does : (old new : Book D) (c : Control) (answer : Controlling) → ControlsBook meaning old c answer new → Does old new c
    does old new (control.Purge (Dcb dcb) mode) (controlling.Purged p) h = record {
      keeps = λ sound. keeps-purge meaning {scope = Dcb dcb} sound h.0 h.1;
      continues = continues_purges meaning h.1;
      is_asked = purge_is old new h.1;
    }
    does old new (control.Purge (Task task) mode) (controlling.Purged p) h = record {
      keeps = λ sound. keeps-purge meaning {scope = Task task} sound tt h;
      continues = continues_purges meaning h;
      is_asked = purge_is old new h;
    }
    does old new (control.Close dcb) (controlling.Closed c) h = record {
      keeps = λ sound. keeps-close meaning sound h;
      continues = continues_closes meaning h;
      is_asked = close_is old new h;
    }
    does old new (control.Reset dcb) controlling.Reset h = record {
      keeps = λ sound. keeps-reset meaning sound h.0 h.1;
      continues = continues_adds (Reset dcb) h.1;
      is_asked = reset_is old new h.1;
    }
    does old new (control.Purge (Dcb dcb) mode) (controlling.Closed c) h = elim h [ ]
    does old new (control.Purge (Dcb dcb) mode) controlling.Reset h = elim h [ ]
    does old new (control.Purge (Task task) mode) (controlling.Closed c) h = elim h [ ]
    does old new (control.Purge (Task task) mode) controlling.Reset h = elim h [ ]
    does old new (control.Close dcb) (controlling.Purged p) h = elim h [ ]
    does old new (control.Close dcb) controlling.Reset h = elim h [ ]
    does old new (control.Reset dcb) (controlling.Purged p) h = elim h [ ]
    does old new (control.Reset dcb) (controlling.Closed c) h = elim h [ ]

  -- A CONTROL THAT IS REFUSED for its DCB makes no entry
  refused_makes_none : (b : Book D) (c : Control) → ControlRefused b c NoSuchDcb → makes_none c b.trace ≡ true
  refused_makes_none b (control.Purge (Dcb dcb) mode) why = ap not why
  refused_makes_none b (control.Purge (Task task) mode) why = absurd cc
  refused_makes_none b (control.Close dcb) why = ap (λ o. not (o && not (is_closed dcb b.trace))) why
  refused_makes_none b (control.Reset dcb) why = ap not why

  -- THE LOG AFTER A CONTROL, by the answer
  module _ {s : SiteRows} {own_calls : Bool} {opened : List (Book D)} {unit : ℕ} {l : LogState} (number : ℕ) (old new : Book D) (c : Control)
      (is : KeepsLog s own_calls opened unit l old.trace) where
    by_answer : {A : Type 0} (r : Result A DcbError) {Done : A → Type 0} → IfOk r Done → IfErr r (ControlRefused old c) → OnErr r (new ≡ old) →
        ((a : A) → Done a → IsAsked c old.trace new.trace) → KeepsLog s own_calls opened unit (logged (is_asked r) number c l) new.trace
    by_answer (Ok a) done why refused goes = log_asked number c is (goes a done)
    by_answer (Err NoSuchDcb) done why refused goes = log_asked number c is
        (λ own_calls first asked k. quietly_same old new refused own_calls first (asked ++ c ∷ []) (MakesNone c (refused_makes_none old c why) k))
    by_answer (Err NoMemory) done why refused goes = log_quietly is (quietly_same old new refused)

    pub log_control : {A : Type 0} (r : Result A DcbError) {Done : A → Type 0} → IfOk r Done → IfErr r (ControlRefused old c) →
        OnErr r (new ≡ old) → ((a : A) → Done a → IsAsked c old.trace new.trace) →
        (made : Bool) (after : LogState) → made ≡ is_asked r → after ≡ logged made number c l → KeepsLog s own_calls opened unit after new.trace
    log_control r done why refused goes made after asked is_after =
        subst (λ (x : LogState). KeepsLog s own_calls opened unit x new.trace) (sym (is_after ∙ ap (λ b. logged b number c l) asked))
        (by_answer r done why refused goes)

    by_task_answer : {A E : Type 0} (r : Result A E) {Done : A → Type 0} → IfOk r Done → OnErr r (new ≡ old) →
        ((a : A) → Done a → IsAsked c old.trace new.trace) → KeepsLog s own_calls opened unit (logged (is_ok r) number c l) new.trace
    by_task_answer (Ok a) done refused goes = log_asked number c is (goes a done)
    by_task_answer (Err e) done refused goes = log_quietly is (quietly_same old new refused)

    -- so it is with a purge of a task by the unit's own call
    pub log_task_purge : {A E : Type 0} (r : Result A E) {Done : A → Type 0} → IfOk r Done → OnErr r (new ≡ old) →
        ((a : A) → Done a → IsAsked c old.trace new.trace) →
        (made : Bool) (after : LogState) → made ≡ is_ok r → after ≡ logged made number c l → KeepsLog s own_calls opened unit after new.trace
    log_task_purge r done refused goes made after asked is_after =
        subst (λ (x : LogState). KeepsLog s own_calls opened unit x new.trace) (sym (is_after ∙ ap (λ b. logged b number c l) asked))
        (by_task_answer r done refused goes)
