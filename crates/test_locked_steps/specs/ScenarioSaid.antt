-- WHAT A LINE OF A SCENARIO SAYS, as values without their places (profile).
use Rattle.std.specs.Prelude.{ℕ}
use Rattle.job_script.specs.Said.{LineSaid}
use Rattle.job_script.specs.LineViews.{line_said}
use Rattle.test_locked_steps.specs.declared.room_line.RoomLine.{RoomLine}
use Rattle.book_states.specs.declared.step.Step.{Step}
use Rattle.test_locked_steps.specs.declared.line.ScenarioLine.{ScenarioLine}
use Rattle.test_locked_steps.specs.declared.line.ScenarioLine.TheVariants as lines

-- a line of a script, a room, a step, that a unit is served, or what is expected
pub data ScenarioSaid : Type 0 where
  says_line : LineSaid → ScenarioSaid
  says_room : RoomLine → ScenarioSaid
  says_step : Step → ScenarioSaid
  says_serve : ℕ → ScenarioSaid
  says_expected : ScenarioSaid

abbrev pub scenario_said : ScenarioLine → ScenarioSaid
scenario_said (lines.Script line) = says_line (line_said line)
scenario_said (lines.Room room) = says_room room
scenario_said (lines.Step step) = says_step step
scenario_said (lines.Serve unit) = says_serve unit
scenario_said lines.Expect = says_expected
