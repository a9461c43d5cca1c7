-- What a task has done, from one command to the next, and when it stops or ends early.
use Rattle.std.proofs.Common.{◌≡◌, ◌≤◌, ◌==◌, ℕ, Bool, true, false, if◌then◌else◌, Result, Ok, Err, IfErr, OnOk, List, [], ◌∷◌, ◌++◌, length, inl, inr}
use Rattle.std.proofs.Common.{refl, sym, subst, ap, ◌∙◌, arith, append-nil, drop}
use Rattle.std.specs.Result.{IsErrAnd}
use Rattle.excp_system.specs.States.{TaskState, awaited_count}
use Rattle.unit_book.specs.declared.control.Control.{Control}
use Rattle.request_piece.specs.declared.piece.Piece.{Piece}
use Rattle.request_piece.specs.PostedState.{PostedState}
use Rattle.job_script.specs.declared.command.Action.{Action}
use Rattle.job_script.specs.declared.command.Action.TheVariants.{Excp, Purge, PurgeTask, Close, Reset, Wait}
use Rattle.job_script.specs.declared.command.ScriptCommand.{ScriptCommand}
use Rattle.job_script.specs.Tasks.{places_of}
use Rattle.job_run.specs.declared.task_error.TaskError.{TaskError}
use Rattle.job_run.specs.declared.task_error.TaskError.TheVariants as errors
use Rattle.job_run.specs.Faults.{fault_at}
use Rattle.job_run.specs.Sending.{AsksNext, AsksPart, Deeds, DoesFirst, DoesScript, EndsEarly, Fails, HasDone, StopsAt, adds_deeds, asks_of}
use Rattle.job_run.specs.Sending.{collects, deeds, does_all, no_deeds, sends}
use Rattle.job_run.specs.declared.command_fault.CommandFault.{CommandFault}
use Rattle.job_run.proofs.Walk.{IsNext, Reached, begins, ends, goes_on}

-- what the commands of a task send, and what they ask
abbrev pub sends_all : ℕ → List ScriptCommand → List (List Piece) → List (List Piece)
sends_all task commands sent = does_all (sends task) task commands sent

abbrev pub asks_all : ℕ → List ScriptCommand → List (List Control) → List (List Control)
asks_all task commands asked = does_all asks_of task commands asked

-- a command of the task, or of another
sent-by : (own : Bool) (task : ℕ) (a : Action) (d : Deeds) →
    (if own then adds_deeds task a d else d).sent ≡ (if own then sends task a d.sent else d.sent)
sent-by true task a d = refl
sent-by false task a d = refl

asked-by : (own : Bool) (task : ℕ) (a : Action) (d : Deeds) →
    (if own then adds_deeds task a d else d).asked ≡ (if own then asks_of a d.asked else d.asked)
asked-by true task a d = refl
asked-by false task a d = refl

pub deeds-sent : (task : ℕ) (commands : List ScriptCommand) (d : Deeds) →
    (does_all (adds_deeds task) task commands d).sent ≡ sends_all task commands d.sent
unfolding does_all
deeds-sent task [] d = refl
deeds-sent task (c ∷ others) d = deeds-sent task others (if c.task == task then adds_deeds task c.action d else d)
    ∙ ap (sends_all task others) (sent-by (c.task == task) task c.action d)

pub deeds-asked : (task : ℕ) (commands : List ScriptCommand) (d : Deeds) →
    (does_all (adds_deeds task) task commands d).asked ≡ asks_all task commands d.asked
unfolding does_all
deeds-asked task [] d = refl
deeds-asked task (c ∷ others) d = deeds-asked task others (if c.task == task then adds_deeds task c.action d else d)
    ∙ ap (asks_all task others) (asked-by (c.task == task) task c.action d)

-- THE COMMANDS BEFORE these places of the task are done
pub record Done (commands : List ScriptCommand) (old : TaskState) (places : List ℕ) (now : TaskState) : Type 0 where
  pub all : Deeds
  pub reached : Reached (adds_deeds old.number) old.number commands (no_deeds old) places all
  pub sent : now.sent ≡ all.sent
  pub asked : now.asked ≡ all.asked
  pub collected : all.collected ≤ length now.got

pub done-none : (commands : List ScriptCommand) (s : TaskState) → Done commands s (places_of s.number commands) s
done-none commands s = record {
  all = no_deeds s;
  reached = begins (adds_deeds s.number) s.number commands (no_deeds s);
  sent = refl;
  asked = refl;
  collected = omega arith;
}

-- a wait collects at least what was sent, and no other command loses a post
collects-more : (a : Action) (sent : List (List Piece)) (count now new : ℕ) → count ≤ now → now ≤ new → collects a sent 0 ≤ new →
    collects a sent count ≤ new
collects-more (Excp e) sent count now new before grows waited = omega (arith, before, grows)
collects-more (Purge dcb mode) sent count now new before grows waited = omega (arith, before, grows)
collects-more (PurgeTask n mode) sent count now new before grows waited = omega (arith, before, grows)
collects-more (Close dcb) sent count now new before grows waited = omega (arith, before, grows)
collects-more (Reset dcb) sent count now new before grows waited = omega (arith, before, grows)
collects-more Wait sent count now new before grows waited = waited

-- THE COMMAND at the first of these places comes next, in a state that is reached
module _ (commands : List ScriptCommand) (old now new : TaskState) (command : ScriptCommand) (here places : List ℕ)
    (d : Done commands old here now)
    (n : IsNext (adds_deeds old.number) old.number commands (no_deeds old) command places d.all) (grows : length now.got ≤ length new.got) where
  -- it is done
  pub done-more : new.sent ≡ sends old.number command.action now.sent → new.asked ≡ asks_of command.action now.asked →
      collects command.action now.sent 0 ≤ length new.got → Done commands old places new
  done-more sent asked collected = record {
    all = adds_deeds old.number command.action d.all;
    reached = goes_on (adds_deeds old.number) old.number commands (no_deeds old) command places d.all (adds_deeds old.number command.action d.all) n refl;
    sent = sent ∙ ap (sends old.number command.action) d.sent;
    asked = asked ∙ ap (asks_of command.action) d.asked;
    collected = collects-more command.action d.all.sent d.all.collected (length now.got) (length new.got) d.collected grows
        (subst (λ (l : List (List Piece)). collects command.action l 0 ≤ length new.got) d.sent collected);
  }

  -- it fails
  pub stops : (cause : CommandFault) (fault : TaskError) → new.sent ≡ now.sent → AsksPart command.action now.asked new.asked →
      Fails command.action now.sent cause → fault ≡ fault_at cause command.line → StopsAt commands old new fault
  stops cause fault unsent part fails named = record {
    before = n.before;
    command = command;
    others = n.others;
    split = n.split;
    own = n.own;
    done = record {
      sent = unsent ∙ d.sent ∙ ap (λ (e : Deeds). e.sent) n.now_is;
      asked = inr (n.own, subst (λ (l : List (List Control)). AsksPart command.action l new.asked) (d.asked ∙ ap (λ (e : Deeds). e.asked) n.now_is) part);
      collected = subst (λ (e : Deeds). e.collected ≤ length new.got) n.now_is (omega (arith, d.collected, grows));
    };
    cause = cause;
    fails = subst (λ s. Fails command.action s cause) (sym unsent) fails;
    named = named;
  }

-- all commands are done
pub done-all : (commands : List ScriptCommand) (old now : TaskState) (places : List ℕ) (i number : ℕ) → places ≡ places_of number commands →
    number ≡ old.number → length places ≤ i → Done commands old (drop i (places_of old.number commands)) now → HasDone commands [] old now
done-all commands old now places i number value same past d =
    let all = ends (adds_deeds old.number) old.number number commands (no_deeds old) d.all places i value same past d.reached in
    record {
      sent = d.sent ∙ ap (λ (e : Deeds). e.sent) all;
      asked = d.asked ∙ ap (λ (e : Deeds). e.asked) all;
      collected = subst (λ (e : Deeds). e.collected ≤ length now.got) all d.collected;
    }

-- ---- the end of a task

next-none : (task : ℕ) (commands : List ScriptCommand) (asked : List (List Control)) → AsksNext task commands asked asked
next-none task [] asked = refl
next-none task (c ∷ others) asked = inl refl

-- a task that does no command
pub does-none : (commands : List ScriptCommand) (s : TaskState) → DoesFirst commands s s
unfolding does_all
does-none commands s = record {
  before = [];
  others = commands;
  split = refl;
  done = record { sent = refl; asked = next-none s.number commands s.asked; collected = omega arith };
}

-- and one that collects more, after its commands
still : (commands next : List ScriptCommand) (old mid new : TaskState) → HasDone commands next old mid → new.sent ≡ mid.sent →
    new.asked ≡ mid.asked →
    length mid.got ≤ length new.got → HasDone commands next old new
still commands next old mid new d sent asked grows = record {
  sent = sent ∙ d.sent;
  asked = subst (λ (l : List (List Control)). AsksNext old.number next (deeds commands old).asked l) (sym asked) d.asked;
  collected = omega (arith, d.collected, grows);
}

still-stops : (commands : List ScriptCommand) (old mid new : TaskState) (fault : TaskError) → StopsAt commands old mid fault →
    new.sent ≡ mid.sent →
    new.asked ≡ mid.asked → length mid.got ≤ length new.got → StopsAt commands old new fault
still-stops commands old mid new fault s sent asked grows = record {
  before = s.before;
  command = s.command;
  others = s.others;
  split = s.split;
  own = s.own;
  done = still s.before (s.command ∷ s.others) old mid new s.done sent asked grows;
  cause = s.cause;
  fails = subst (λ (l : List (List Piece)). Fails s.command.action l s.cause) (sym sent) s.fails;
  named = s.named;
}

first-of : (commands : List ScriptCommand) (old new : TaskState) (fault : TaskError) → StopsAt commands old new fault →
    DoesFirst commands old new
first-of commands old new fault s = record { before = s.before; others = s.command ∷ s.others; split = s.split; done = s.done }

early-by : (fault : TaskError) (commands : List ScriptCommand) (old new : TaskState) → StopsAt commands old new fault →
    EndsEarly commands old new fault
early-by (errors.Line _ _) commands old new s = s
early-by errors.NoMemory commands old new s = first-of commands old new errors.NoMemory s

-- a task that has done its commands, or stopped at one of them, and then collects more
module _ {A : Type 0} (commands : List ScriptCommand) (old mid new : TaskState) where
  -- memory runs out there
  pub first-by : (r : Result A TaskError) → OnOk r (HasDone commands [] old mid) → IfErr r (StopsAt commands old mid) → new.sent ≡ mid.sent →
      new.asked ≡ mid.asked → length mid.got ≤ length new.got → DoesFirst commands old new
  first-by (Ok x) done stopped sent asked grows = record {
    before = commands;
    others = [];
    split = sym (append-nil commands);
    done = still commands [] old mid new done sent asked grows;
  }
  first-by (Err e) done stopped sent asked grows = first-of commands old new e (still-stops commands old mid new e stopped sent asked grows)

  -- or not
  pub done-still : (r : Result A TaskError) → OnOk r (HasDone commands [] old mid) → new.sent ≡ mid.sent → new.asked ≡ mid.asked →
      length mid.got ≤ length new.got → OnOk r (HasDone commands [] old new)
  done-still (Ok x) done sent asked grows = still commands [] old mid new done sent asked grows
  done-still (Err e) done sent asked grows = tt

  pub stops-still : (r : Result A TaskError) → IfErr r (StopsAt commands old mid) → new.sent ≡ mid.sent → new.asked ≡ mid.asked →
      length mid.got ≤ length new.got → IfErr r (EndsEarly commands old new)
  stops-still (Ok x) stopped sent asked grows = tt
  stops-still (Err e) stopped sent asked grows = early-by e commands old new (still-stops commands old mid new e stopped sent asked grows)

-- a task that runs out of memory has done its first commands
pub ends_full : {A : Type 0} (r : Result A TaskError) (commands : List ScriptCommand) (old new : TaskState) →
    IsErrAnd r (λ e. e ≡ errors.NoMemory) → DoesFirst commands old new → IfErr r (EndsEarly commands old new)
ends_full (Ok x) commands old new full first = tt
ends_full (Err e) commands old new full first = rw full first

-- a task does its script, by what it has done at its end
pub does_script : {L : Type 0} (r : Result L TaskError) (commands : List ScriptCommand) (old new : TaskState) →
    OnOk r (HasDone commands [] old new) → OnOk r (awaited_count new ≡ 0) → IfErr r (EndsEarly commands old new) →
    DoesScript commands old new r
does_script (Ok x) commands old new done awaits early = (done, awaits)
does_script (Err e) commands old new done awaits early = early
