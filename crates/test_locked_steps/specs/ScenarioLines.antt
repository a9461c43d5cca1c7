-- ONE LINE OF A SCENARIO: what it says by its words alone, or its first fault, Words or Number (profile).
use Rattle.std.specs.Prelude.{ℕ, List, codes, Option, Some, None, Result, Ok, Err, if◌then◌else◌}
use Rattle.std.specs.Str.{bytes_eq}
use Rattle.script_words.specs.Text.{is_printable, words}
use Rattle.job_script.specs.declared.fault.FaultName.{FaultName}
use Rattle.job_script.specs.declared.fault.FaultName.TheVariants as names
use Rattle.job_script.specs.Steps.{◌>>=◌}
use Rattle.job_script.specs.Forms.{Word, word, has, has_least, number_in, index, mode_of}
use Rattle.job_script.specs.Said.{ActionSaid, LineSaid, says_command, says_excp, says_nothing, says_set_up}
use Rattle.job_script.specs.Said.{close, excp, purge, purge_task, reset, wait}
use Rattle.job_script.specs.Lines.{line_of}
use Rattle.request_piece.specs.declared.scope.Scope.TheVariants as scopes
use Rattle.test_locked_steps.specs.declared.room_line.RoomLine.{RoomLine}
use Rattle.test_locked_steps.specs.declared.room_line.RoomLine.TheVariants as rooms
use Rattle.book_states.specs.declared.step.Step.{Step}
use Rattle.book_states.specs.declared.step.Step.TheVariants as steps
use Rattle.test_locked_steps.specs.declared.verb.EventVerb.{EventVerb}
use Rattle.test_locked_steps.specs.declared.verb.EventVerb.TheVariants as verbs
use Rattle.test_locked_steps.specs.EventVerbs.{event_verb_of}
use Rattle.test_locked_steps.specs.ScenarioSaid.{ScenarioSaid, says_expected, says_line, says_room, says_serve, says_step}

-- the number of a unit or a task, alone on its line
unfoldable pub number_line : List Word → Result ℕ FaultName
number_line ws = do
  _ ← has 2 ws
  index (word 1 ws)

-- run U N
unfoldable pub run_line : List Word → Result ScenarioSaid FaultName
run_line ws = do
  _ ← has 3 ws
  unit ← index (word 1 ws)
  most ← number_in 1 65535 (word 2 ws)
  Ok (says_step (steps.Run unit most))

-- purgetaskat T X MODE U
unfoldable pub purge_at_line : List Word → Result ScenarioSaid FaultName
purge_at_line ws = do
  _ ← has 5 ws
  task ← index (word 1 ws)
  other ← index (word 2 ws)
  mode ← mode_of (word 3 ws)
  unit ← index (word 4 ws)
  Ok (says_step (steps.Purge task unit (scopes.Task other) mode))

-- room intake N or room post N
abbrev pub row_room : (ℕ → RoomLine) → List Word → Result RoomLine FaultName
row_room room ws = do
  _ ← has 3 ws
  n ← number_in 1 65535 (word 2 ws)
  Ok (room n)

-- room book U N
abbrev pub book_room : List Word → Result RoomLine FaultName
book_room ws = do
  _ ← has 4 ws
  unit ← index (word 2 ws)
  n ← number_in 1 65535 (word 3 ws)
  Ok (rooms.Book unit n)

-- room of each kind
abbrev pub room_by_row : List Word → Result RoomLine FaultName
room_by_row ws =
    if bytes_eq (word 1 ws) (codes "intake") then row_room rooms.Intake ws
    else if bytes_eq (word 1 ws) (codes "post") then row_room rooms.Post ws
    else if bytes_eq (word 1 ws) (codes "book") then book_room ws
    else Err names.Number

unfoldable pub room_line : List Word → Result RoomLine FaultName
room_line ws = has_least 2 ws >>= λ _. room_by_row ws

-- a step of the unit or the task with this number
abbrev pub step_on : (ℕ → Step) → List Word → Result ScenarioSaid FaultName
step_on step ws = number_line ws >>= λ n. Ok (says_step (step n))

-- a line of each kind that no script has
unfoldable pub by_event_verb : EventVerb → List Word → Result ScenarioSaid FaultName
by_event_verb verbs.Room ws = room_line ws >>= λ room. Ok (says_room room)
by_event_verb verbs.Take ws = step_on steps.Take ws
by_event_verb verbs.Start ws = step_on steps.Start ws
by_event_verb verbs.Run ws = run_line ws
by_event_verb verbs.Interrupt ws = step_on steps.Interrupt ws
by_event_verb verbs.Deliver ws = step_on steps.Deliver ws
by_event_verb verbs.Collect ws = step_on steps.Collect ws
by_event_verb verbs.PurgeTaskAt ws = purge_at_line ws
by_event_verb verbs.Settle ws = step_on steps.Settle ws
by_event_verb verbs.Serve ws = number_line ws >>= λ n. Ok (says_serve n)
by_event_verb verbs.Finish ws = has 1 ws >>= λ _. Ok (says_step steps.Finish)
by_event_verb verbs.Expect ws = Ok says_expected

-- the kind of a line, if no script has it; each of its bytes is printable
unfoldable pub event_kind : List ℕ → Option EventVerb
event_kind text = if is_printable text then event_verb_of (word 0 (words text)) else None

-- a scenario has no wait
abbrev pub not_wait : ActionSaid → LineSaid → Result ScenarioSaid FaultName
not_wait wait line = Err names.Words
not_wait (excp e) line = Ok (says_line line)
not_wait (purge dcb mode) line = Ok (says_line line)
not_wait (purge_task task mode) line = Ok (says_line line)
not_wait (close dcb) line = Ok (says_line line)
not_wait (reset dcb) line = Ok (says_line line)

abbrev pub no_wait : LineSaid → Result ScenarioSaid FaultName
no_wait (says_command c) = not_wait c.action (says_command c)
no_wait says_nothing = Ok (says_line says_nothing)
no_wait (says_set_up s) = Ok (says_line (says_set_up s))
no_wait (says_excp e) = Ok (says_line (says_excp e))

abbrev pub with_no_wait : Result LineSaid FaultName → Result ScenarioSaid FaultName
with_no_wait read = read >>= no_wait

-- what a line says, of a kind that no script has, or of a script
abbrev pub by_event_kind : Option EventVerb → ℕ → List ℕ → Result ScenarioSaid FaultName
by_event_kind None line text = with_no_wait (line_of line text)
by_event_kind (Some verb) line text = by_event_verb verb (words text)

-- the line with this number
abbrev pub scenario_line : ℕ → List ℕ → Result ScenarioSaid FaultName
scenario_line line text = by_event_kind (event_kind text) line text
