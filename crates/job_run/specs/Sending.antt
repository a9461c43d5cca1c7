-- WHAT A TASK SENDS AND ASKS by the commands of a script, and why a command fails (profile).
use Rattle.std.specs.Prelude.{◌≡◌, ◌≤◌, ◌⊎◌, ◌+◌, ◌-◌, ◌^◌, ◌==◌, ℕ, true, List, [], ◌∷◌, ◌++◌, length, map, slice_index_or, slice_set, if◌then◌else◌}
use Rattle.std.specs.Prelude.{Result, Ok, Err}
use Rattle.std.specs.Arc.{arc_value}
use Rattle.std.specs.List.{sum_by}
use Rattle.request_piece.specs.Requests.{request_of}
use Rattle.request_piece.specs.declared.piece.Name.{Name}
use Rattle.request_piece.specs.declared.piece.Piece.{Piece}
use Rattle.request_piece.specs.declared.scope.Scope.TheVariants as scopes
use Rattle.excp_system.specs.Controls.{asked_of, asks}
use Rattle.excp_system.specs.States.{TaskState, awaited_count}
use Rattle.unit_book.specs.declared.control.Control.{Control}
use Rattle.unit_book.specs.declared.control.Control.TheVariants as controls
use Rattle.job_script.specs.declared.command.Action.{Action}
use Rattle.job_script.specs.declared.command.Action.TheVariants.{Excp, Purge, PurgeTask, Close, Reset, Wait}
use Rattle.job_script.specs.declared.command.ScriptCommand.{ScriptCommand}
use Rattle.job_script.specs.declared.command.Excp.{Excp as OneExcp}
use Rattle.job_run.specs.declared.task_error.TaskError.{TaskError}
use Rattle.job_run.specs.declared.task_error.TaskError.TheVariants as errors
use Rattle.job_run.specs.declared.command_fault.CommandFault.{CommandFault}
use Rattle.job_run.specs.declared.command_fault.CommandFault.TheVariants.{NoNumber, NoMemory}
use Rattle.job_run.specs.Faults.{fault_at}

-- a request is sent to its unit; `sent` is what the task has sent to each unit
abbrev pub sends_one : Piece → List (List Piece) → List (List Piece)
sends_one request sent = slice_set sent request.unit (slice_index_or sent request.unit [] ++ request ∷ [])

-- an EXCP sends its request to its unit, under the task's next number there
abbrev pub sends_excp : ℕ → OneExcp → List (List Piece) → List (List Piece)
sends_excp task e sent =
    let name : Name = record { task = task; seq = length (slice_index_or sent e.dcb.unit []) + 1 } in
    sends_one (request_of name e.dcb.unit e.dcb.number e.iob (arc_value e.area)) sent

-- no other command sends a request
abbrev pub sends : ℕ → Action → List (List Piece) → List (List Piece)
sends task (Excp e) sent = sends_excp task e sent
sends task (Purge dcb mode) sent = sent
sends task (PurgeTask other mode) sent = sent
sends task (Close dcb) sent = sent
sends task (Reset dcb) sent = sent
sends task Wait sent = sent

-- a control is asked of every unit; `asked` is what the task has asked of each unit
abbrev pub asks_each : Control → List (List Control) → List (List Control)
asks_each c asked = map (λ l. l ++ c ∷ []) asked

-- a purge, a close or a reset of a DCB is asked of the DCB's unit, and a purge of a task of every unit. No other command asks
abbrev pub asks_of : Action → List (List Control) → List (List Control)
asks_of (Excp e) asked = asked
asks_of (Purge dcb mode) asked = asks true dcb.unit (controls.Purge (scopes.Dcb dcb.number) mode) asked
asks_of (PurgeTask other mode) asked = asks_each (controls.Purge (scopes.Task other) mode) asked
asks_of (Close dcb) asked = asks true dcb.unit (controls.Close dcb.number) asked
asks_of (Reset dcb) asked = asks true dcb.unit (controls.Reset dcb.number) asked
asks_of Wait asked = asked

-- what the commands of a task make of something: its own alone, one after the other
unfoldable pub does_all : {S : Type 0} → (Action → S → S) → ℕ → List ScriptCommand → S → S
does_all does task [] s = s
does_all does task (c ∷ others) s = does_all does task others (if c.task == task then does c.action s else s)

-- an EXCP fails if memory runs out, or if the task has used its last number at the unit
abbrev pub ExcpFails : OneExcp → List (List Piece) → CommandFault → Type 0
ExcpFails e sent NoNumber = 2 ^ 32 - 1 ≤ length (slice_index_or sent e.dcb.unit [])
ExcpFails e sent NoMemory = Unit {0}

-- why a command fails, when the task has sent this: all but an EXCP fail only if memory runs out
abbrev pub Fails : Action → List (List Piece) → CommandFault → Type 0
Fails (Excp e) sent fault = ExcpFails e sent fault
Fails (Purge dcb mode) sent fault = fault ≡ NoMemory
Fails (PurgeTask other mode) sent fault = fault ≡ NoMemory
Fails (Close dcb) sent fault = fault ≡ NoMemory
Fails (Reset dcb) sent fault = fault ≡ NoMemory
Fails Wait sent fault = fault ≡ NoMemory

-- a control was asked of some units, of each once at most
pub record AsksSome (c : Control) (old new : List (List Control)) : Type 0 where
  pub count : length new ≡ length old
  pub each : (unit : ℕ) → (asked_of new unit ≡ asked_of old unit) ⊎ (asked_of new unit ≡ asked_of old unit ++ c ∷ [])

-- what a command that fails has asked: nothing, but for a purge of a task, which goes on to the other units
abbrev pub AsksPart : Action → List (List Control) → List (List Control) → Type 0
AsksPart (Excp e) old new = new ≡ old
AsksPart (Purge dcb mode) old new = new ≡ old
AsksPart (PurgeTask other mode) old new = AsksSome (controls.Purge (scopes.Task other) mode) old new
AsksPart (Close dcb) old new = new ≡ old
AsksPart (Reset dcb) old new = new ≡ old
AsksPart Wait old new = new ≡ old

-- the first of these commands has asked nothing, or no more than a part if it is of the task
abbrev pub AsksNext : ℕ → List ScriptCommand → List (List Control) → List (List Control) → Type 0
AsksNext task [] old new = new ≡ old
AsksNext task (c ∷ others) old new = (new ≡ old) ⊎ ((c.task ≡ task) × AsksPart c.action old new)

-- WHAT A TASK HAS DONE: what it sent to each unit, the controls that it asked of each, and how many posts it has collected at least
pub record Deeds : Type 0 where
  pub sent : List (List Piece)
  pub asked : List (List Control)
  pub collected : ℕ

-- a wait collects a post for each request that was sent
abbrev pub collects : Action → List (List Piece) → ℕ → ℕ
collects (Excp e) sent count = count
collects (Purge dcb mode) sent count = count
collects (PurgeTask other mode) sent count = count
collects (Close dcb) sent count = count
collects (Reset dcb) sent count = count
collects Wait sent count = sum_by length sent

-- what a task has sent, asked and collected after an action
abbrev pub adds_deeds : ℕ → Action → Deeds → Deeds
adds_deeds task a d = record {
  sent = sends task a d.sent;
  asked = asks_of a d.asked;
  collected = collects a d.sent d.collected;
}

-- nothing yet
abbrev pub no_deeds : TaskState → Deeds
no_deeds s = record { sent = s.sent; asked = s.asked; collected = 0 }

-- by these commands of a script, its own alone
abbrev pub deeds : List ScriptCommand → TaskState → Deeds
deeds commands s = does_all (adds_deeds s.number) s.number commands (no_deeds s)

-- a task has done its commands among these, and no other but a part of its own that comes next: it sent and asked each unit what they
-- say, in their order, and has collected at least as many posts as it had sent requests at its last wait
pub record HasDone (commands next : List ScriptCommand) (old new : TaskState) : Type 0 where
  pub sent : new.sent ≡ (deeds commands old).sent
  pub asked : AsksNext old.number next (deeds commands old).asked new.asked
  pub collected : (deeds commands old).collected ≤ length new.got

-- a task stops at one of its commands, which fails: it has done the commands before, and the fault names the command's line
pub record StopsAt (commands : List ScriptCommand) (old new : TaskState) (fault : TaskError) : Type 0 where
  pub before : List ScriptCommand
  pub command : ScriptCommand
  pub others : List ScriptCommand
  pub split : commands ≡ before ++ command ∷ others
  pub own : command.task ≡ old.number
  pub done : HasDone before (command ∷ others) old new
  pub cause : CommandFault
  pub fails : Fails command.action new.sent cause
  pub named : fault ≡ fault_at cause command.line

-- a task has done its first commands
pub record DoesFirst (commands : List ScriptCommand) (old new : TaskState) : Type 0 where
  pub before : List ScriptCommand
  pub others : List ScriptCommand
  pub split : commands ≡ before ++ others
  pub done : HasDone before others old new

-- a task ends before its last command: it stops at one of its commands, or runs out of memory
abbrev pub EndsEarly : List ScriptCommand → TaskState → TaskState → TaskError → Type 0
EndsEarly commands old new (errors.Line line name) = StopsAt commands old new (errors.Line line name)
EndsEarly commands old new errors.NoMemory = DoesFirst commands old new

-- a task does its commands of a script to their end, and then collects at least as many posts as it sent requests; or it ends early
abbrev pub DoesScript : {L : Type 0} → List ScriptCommand → TaskState → TaskState → Result L TaskError → Type 0
DoesScript commands old new (Ok lines) = HasDone commands [] old new × (awaited_count new ≡ 0)
DoesScript commands old new (Err fault) = EndsEarly commands old new fault
