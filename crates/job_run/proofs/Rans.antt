-- What the units of a script have done, from what their run accounts for.
use Rattle.std.proofs.Common.{◌≡◌, ◌<◌, ℕ, Result, Ok, Err, Some, IfOk, OnOk, List, [], length, get_or, map, replicate, subst, sym, ap, ◌∙◌, arith, ◌++◌, ◌+◌, refl, inl, inr}
use Rattle.std.specs.Prelude.{slice_get, slice_index_or, vec_len}
use Rattle.std.specs.List.{All}
use Rattle.std.proofs.Math.Dec.{ltb}
use Rattle.std.proofs.lemmas.Bool.{cases_Bool, ltb-false, ltb-true}
use Rattle.std.proofs.lemmas.List.{append-nil, length-map, length-replicate, nil_from_length}
use Rattle.std.proofs.lemmas.Option.{slice_get_within, slice_get-get_or}
use Rattle.any_device.specs.Devices.{any_device}
use Rattle.any_device.specs.declared.device.AnyDevice.{AnyDevice}
use Rattle.unit_book.specs.Book.{Book}
use Rattle.unit_book.specs.Legal.{Legal}
use Rattle.unit_book.specs.Lists.{Each}
use Rattle.unit_book.specs.WorldLaws.{posts_of}
use Rattle.request_piece.specs.declared.piece.Piece.{Piece}
use Rattle.excp_system.proofs.Places.{index_replicate}
use Rattle.excp_system.specs.Controls.{asked_of}
use Rattle.signed_list.specs.Signed.{signed_by}
use Rattle.excp_system.specs.Opening.{AreBooks, fresh_task}
use Rattle.unit_book.specs.declared.control.Control.{Control}
use Rattle.excp_system.specs.States.{TaskState, awaited_count, sent_by}
use Rattle.post_ledger.proofs.Pairs.{all_at_places, all_get, get_map, get_there}
use Rattle.post_ledger.specs.Report.{AreIdle, AreLegal, AreOfTasks, IsFor, ReportState}
use Rattle.system_threads.specs.Running.{Accounts}
use Rattle.job_script.specs.declared.command.ScriptCommand.{ScriptCommand}
use Rattle.job_script.specs.Views.{said, unit_said}
use Rattle.job_script.specs.declared.script.Script.{Script}
use Rattle.job_run.specs.declared.task_error.TaskError.{TaskError}
use Rattle.job_script.specs.declared.fault.JobError.{JobError}
use Rattle.job_run.specs.declared.run.Finished.{Finished}
use Rattle.job_run.specs.Controls.{AreControlledAs, asked_controls}
use Rattle.job_run.specs.Ran.{IsDone, Ran}
use Rattle.job_run.specs.Requests.{excps, requests_from}
use Rattle.job_run.specs.Sending.{DoesScript, no_deeds}
use Rattle.job_run.proofs.Asked.{asks_controls}
use Rattle.job_run.proofs.Requested.{sends_requests}
use Rattle.job_run.proofs.Sent.{asks_all, deeds-asked, deeds-sent, sends_all}
use Rattle.job_run.proofs.Uncontrolled.{uncontrolled_trace}
use mathlib.Core.Logic.{dite}
use native.Mathlib.Decide.{ℕ_discrete}

abbrev pub own_of : {A E : Type 0} → A → Result A E
own_of x = Ok x

-- a task that did all has sent what its commands send, and asked what they ask
did_all : {L : Type 0} (commands : List ScriptCommand) (old new : TaskState) (o : Result L TaskError) → DoesScript commands old new o →
    IsDone o →
    (new.sent ≡ sends_all old.number commands old.sent) × (new.asked ≡ asks_all old.number commands old.asked)
did_all commands old new (Ok x) does done = (
  does.0.sent ∙ deeds-sent old.number commands (no_deeds old),
  does.0.asked ∙ deeds-asked old.number commands (no_deeds old),
)
did_all commands old new (Err e) does done = absurd done

module _ {L : Type 0} (script : Script) (units count : ℕ) (opened : List (Book AnyDevice)) (report : ReportState AnyDevice)
    (outcomes : List (Result L TaskError))
    (a : Accounts any_device (DoesScript script.commands.items) units count opened report outcomes) (done : All IsDone outcomes) where
  -- what a task of the run has sent and asked
  did : (t : ℕ) (w : TaskState) → slice_get a.tasks t ≡ Some w →
      (w.sent ≡ sends_all t script.commands.items (replicate units [])) × (w.asked ≡ asks_all t script.commands.items (replicate units []))
  did t w there =
      let o = get_there outcomes a.tasks t w (sym a.run.count_is) there in
      did_all script.commands.items (fresh_task units t) w o.0 (a.run.each t w o.0 there o.1) (all_get IsDone outcomes t o.0 done o.1)

  sent_is : (t u : ℕ) (w : TaskState) → slice_get a.tasks t ≡ Some w → u < units →
      sent_by w u ≡ requests_from t 1 (excps t u (said script).commands)
  sent_is t u w there within =
      let size : length (replicate {A = List Piece} units []) ≡ units = length-replicate units [] in
      let inside : u < length (replicate {A = List Piece} units []) = omega (arith, size, within) in
      ap (λ (s : List (List Piece)). slice_index_or s u []) (did t w there).0
      ∙ sends_requests t u script.commands.items (replicate units []) inside
      ∙ ap (λ (l : List Piece). l ++ requests_from t (length l + 1) (excps t u (said script).commands)) (index_replicate units u [])

  asked_is : (t u : ℕ) (w : TaskState) → slice_get a.tasks t ≡ Some w → u < units → asked_of w.asked u ≡ asked_controls t u (said script).commands
  asked_is t u w there within =
      let none : List (List Control) = replicate units [] in
      ap (λ (l : List (List Control)). asked_of l u) (did t w there).1
      ∙ asks_controls t u script.commands.items none (omega (arith, length-replicate {A = List Control} units [], within))
      ∙ ap (λ (l : List Control). l ++ asked_controls t u (said script).commands) (index_replicate units u [])

  -- there is a task
  task_at : (t : ℕ) → t < count → (w : TaskState) × (slice_get a.tasks t ≡ Some w)
  task_at t within = (
    get_or a.tasks t (fresh_task units t),
    slice_get-get_or a.tasks t (fresh_task units t) (omega (arith, within, a.placed.count_is)),
  )

  pub are_controlled : IsFor units count report → script.set_up.tasks ≡ count → AreControlledAs (said script) opened report.books
  are_controlled is_for same u b at =
      let known = a.controlled u b at in
      let within : u < units = omega (arith, slice_get_within report.books u b at, is_for.of_units) in
      let all : length a.tasks ≡ script.set_up.tasks = a.placed.count_is ∙ sym same in
      record {
        first = known.first;
        is = known.is;
        asked = known.asked;
        controlled = known.controlled;
        by_tasks = λ t of_script.
            let w = task_at t (omega (arith, of_script, same)) in
            known.of_tasks t w.0 w.1 ∙ asked_is t u w.0 w.1 within;
        no_other = λ k after. dite (ℕ_discrete k (length a.tasks))
            (λ own. ap (λ n. signed_by n known.asked) own ∙ known.no_own refl)
            (λ other. known.no_other k (omega (arith, after, all, other)));
      }

  pub ran : AreBooks units opened → IsFor units count report → AreLegal any_device report → AreIdle report → AreOfTasks count report →
      script.set_up.tasks ≡ count → vec_len script.set_up.units ≡ units → Ran (said script) report.books
  ran books is_for legal idle of_tasks same sized = record {
    count =
        let size : length (map unit_said script.set_up.units.items) ≡ vec_len script.set_up.units =
        omega (arith, length-map script.set_up.units.items unit_said, script.set_up.units.ok.0) in
        is_for.of_units ∙ sym sized ∙ sym size;
    legal = legal;
    idle = idle;
    of_tasks = subst (λ (n : ℕ). AreOfTasks n report) (sym same) of_tasks;
    received = λ t u b of_script at.
        let w = task_at t (omega (arith, of_script, same)) in
        let within : u < units = omega (arith, slice_get_within report.books u b at, is_for.of_units) in
        a.received u t b w.0 at w.1 ∙ sent_is t u w.0 w.1 within;
    posted_once = λ t u b of_script at.
        let w = task_at t (omega (arith, of_script, same)) in
        let within : u < units = omega (arith, slice_get_within report.books u b at, is_for.of_units) in
        subst (Each (λ (r : Piece). posts_of r.name b.trace ≡ 1)) (sent_is t u w.0 w.1 within) (a.posted_once u t b w.0 at w.1);
    uncontrolled = λ u b at none.
        let c = are_controlled is_for same u b at in
        uncontrolled_trace any_device b.mounted c.first.trace b.trace c.asked c.controlled
        (λ k. elim (cases_Bool (ltb k (said script).set_up.tasks)) [
          | inl before ↦ let lt = ltb-true k (said script).set_up.tasks before in c.by_tasks k lt ∙ none k lt
          | inr after ↦ c.no_other k (ltb-false k (said script).set_up.tasks after)
        ])
        (books.opened u c.first c.is)
        (all_get (λ (x : Book AnyDevice). Legal any_device x.mounted x.trace) report.books u b legal at);
  }

-- what follows of a result that is no fault
pub with_done : {A E : Type 0} (r : Result A E) (P Q : Type 0) → OnOk r P → (P → Q) → OnOk r Q
with_done (Ok x) P Q p f = f p
with_done (Err e) P Q p f = tt

-- the report that a run returns is the one that was made
pub of_report : {N : Type 0} (r : Result (Finished N) JobError) (P : List (Book AnyDevice) → Type 0) (report : ReportState AnyDevice) →
    IfOk r (λ finished. finished.report ≡ report) → OnOk r (P report.books) → IfOk r (λ finished. P finished.report.books)
of_report (Ok f) P report is holds = subst (λ (x : ReportState AnyDevice). P x.books) (sym is) holds
of_report (Err e) P report is holds = tt

-- a list of tasks that did all
pub all_done : {A E : Type 0} (tasks : List A) (rest outcomes : List (Result A E)) → map (own_of {E = E}) tasks ++ rest ≡ outcomes →
    length rest ≡ 0 → All IsDone outcomes
all_done {A} {E} tasks rest outcomes made none =
    let whole : map (own_of {E = E}) tasks ≡ outcomes =
    sym (ap (λ (l : List (Result A E)). map own_of tasks ++ l) (nil_from_length rest none) ∙ append-nil (map own_of tasks)) ∙ made in
    subst (All IsDone) whole (all_at_places IsDone (map own_of tasks) (λ k o at.
    let a = get_map own_of tasks k o at in subst IsDone (sym a.2) tt))
