-- The fault of a line that ends a run is that of a task which stops at an EXCP of its own.
use Rattle.std.proofs.Common.{◌≡◌, ◌<◌, ◌≤◌, ◌-◌, ◌^◌, ℕ, Result, Ok, Err, IfErr, List, [], ◌∷◌, length, map, replicate, subst, ap, ◌∙◌, refl, arith}
use Rattle.std.specs.Prelude.{slice_index_or}
use Rattle.excp_system.specs.Drained.{ArePlaced}
use Rattle.excp_system.specs.States.{TaskState}
use Rattle.request_piece.specs.declared.piece.Piece.{Piece}
use Rattle.system_threads.specs.Running.{AreRun}
use Rattle.post_ledger.proofs.Pairs.{get_there}
use Rattle.std.proofs.lemmas.List.{map-append}
use Rattle.std.proofs.lemmas.Option.{slice_get_within}
use Rattle.job_script.specs.Grammar.{FaultAt}
use Rattle.job_script.specs.Views.{action_said, command_said, excp_said, said}
use Rattle.job_script.specs.declared.command.Action.{Action}
use Rattle.job_script.specs.declared.command.Action.TheVariants.{Excp, Purge, PurgeTask, Close, Reset, Wait}
use Rattle.job_script.specs.declared.command.Excp.{Excp as OneExcp}
use Rattle.job_script.specs.declared.fault.FaultName.{FaultName}
use Rattle.job_script.specs.declared.fault.FaultName.TheVariants.{Request}
use Rattle.job_script.specs.declared.fault.JobError.{JobError}
use Rattle.job_script.specs.declared.fault.JobError.TheVariants as faults
use Rattle.job_script.specs.declared.script.Script.{Script}
use Rattle.job_run.specs.declared.command_fault.CommandFault.{CommandFault}
use Rattle.job_run.specs.declared.command_fault.CommandFault.TheVariants.{NoNumber, NoMemory}
use Rattle.job_run.specs.declared.task_error.TaskError.{TaskError}
use Rattle.job_run.specs.declared.task_error.TaskError.TheVariants as errors
use Rattle.job_run.specs.Ending.{EndsBeside, IsLate, StopsTask}
use Rattle.job_run.specs.Faults.{fault_at}
use Rattle.job_run.specs.Sending.{DoesScript, Fails, StopsAt, no_deeds}
use Rattle.job_run.proofs.Requested.{sends_count}
use Rattle.job_run.proofs.Sent.{deeds-sent, sends_all}
use Rattle.excp_system.specs.Opening.{fresh_task}

-- an action that fails after the last number is an EXCP
excp_of : (a : Action) (sent : List (List Piece)) → Fails a sent NoNumber →
    (e : OneExcp) × (a ≡ Excp e) × (2 ^ 32 - 1 ≤ length (slice_index_or sent e.dcb.unit []))
excp_of (Excp e) sent fails = (e, refl, fails)
excp_of (Purge dcb mode) sent fails = absurd (cc fails)
excp_of (PurgeTask other mode) sent fails = absurd (cc fails)
excp_of (Close dcb) sent fails = absurd (cc fails)
excp_of (Reset dcb) sent fails = absurd (cc fails)
excp_of Wait sent fails = absurd (cc fails)

-- the fault of a line and its name
at_line : TaskError → FaultAt
at_line (errors.Line line name) = record { line = line; name = name }
at_line errors.NoMemory = record { line = 0; name = Request }

stops_task : (script : Script) (units task line : ℕ) (name : FaultName) (new : TaskState) → task < script.set_up.tasks →
    (s : StopsAt script.commands.items (fresh_task units task) new (errors.Line line name)) → (cause : CommandFault) →
    s.cause ≡ cause → StopsTask (said script) (record { line = line; name = name })
unfolding at_line
stops_task script units task line name new inside s NoMemory is = absurd (cc (s.named ∙ ap (λ (f : CommandFault). fault_at f s.command.line) is))
stops_task script units task line name new inside s NoNumber is =
    let sent = new.sent in
    let sent_is : sent ≡ sends_all task s.before (replicate units []) =
    s.done.sent ∙ deeds-sent task s.before (no_deeds (fresh_task units task)) in
    let e = excp_of s.command.action sent (subst (λ (f : CommandFault). Fails s.command.action sent f) is s.fails) in
    let last : 2 ^ 32 - 1 ≤ length (slice_index_or sent e.0.dcb.unit []) = e.2 in
    let count = sends_count task units e.0.dcb.unit s.before
    (subst (λ (l : List (List Piece)). 1 ≤ length (slice_index_or l e.0.dcb.unit [])) sent_is (omega (arith, last))) in
    record {
      task = task;
      of_script = inside;
      before = map command_said s.before;
      command = command_said s.command;
      others = map command_said s.others;
      split = ap (map command_said) s.split ∙ map-append command_said s.before (s.command ∷ s.others);
      own = s.own;
      issued = excp_said e.0;
      issues = ap action_said e.1;
      last = subst (λ (n : ℕ). 2 ^ 32 - 1 ≤ n) (ap (λ (l : List (List Piece)). length (slice_index_or l e.0.dcb.unit [])) sent_is ∙ count) last;
      named = ap at_line (s.named ∙ ap (λ (f : CommandFault). fault_at f s.command.line) is);
    }

late_by : {L : Type 0} (script : Script) (units count : ℕ) (outcomes : List (Result L TaskError)) (tasks : List TaskState) (fault : JobError)
    → ArePlaced (λ (w : TaskState). w.number) count tasks
    → AreRun (DoesScript script.commands.items) units tasks outcomes
    → script.set_up.tasks ≡ count → EndsBeside outcomes fault → IsLate (said script) fault
late_by script units count outcomes tasks (faults.Line line name) placed run same (t, at) =
    let w = get_there tasks outcomes t (Err (errors.Line line name)) run.count_is at in
    let within : t < length tasks = slice_get_within tasks t w.0 w.1 in
    let stops : StopsAt script.commands.items (fresh_task units t) w.0 (errors.Line line name) =
    run.each t w.0 (Err (errors.Line line name)) w.1 at in
    stops_task script units t line name w.0 (omega (arith, within, placed.count_is, same)) stops stops.cause refl
late_by script units count outcomes tasks faults.NoMemory placed run same ends = tt
late_by script units count outcomes tasks faults.NoThread placed run same ends = absurd ends
late_by script units count outcomes tasks faults.Unmatched placed run same ends = absurd ends
late_by script units count outcomes tasks faults.NotWritten placed run same ends = absurd ends
late_by script units count outcomes tasks faults.TooLong placed run same ends = absurd ends
late_by script units count outcomes tasks faults.Unreadable placed run same ends = absurd ends

pub ends_late_by : {A L : Type 0} (r : Result A JobError) (script : Script) (units count : ℕ) (outcomes : List (Result L TaskError))
    (tasks : List TaskState) → ArePlaced (λ (w : TaskState). w.number) count tasks
    → AreRun (DoesScript script.commands.items) units tasks outcomes
    → script.set_up.tasks ≡ count → IfErr r (EndsBeside outcomes) → IfErr r (IsLate (said script))
ends_late_by (Ok x) script units count outcomes tasks placed run same ends = tt
ends_late_by (Err fault) script units count outcomes tasks placed run same ends =
    late_by script units count outcomes tasks fault placed run same ends
