-- THE WHOLE SCRIPT: what its lines say, first to last, or the first fault with its line (profile).
use Rattle.std.specs.Prelude.{ℕ, Bool, ◌+◌, List, [], ◌∷◌, length, Result, Ok, Err, ◌==◌, ◌||◌, if◌then◌else◌}
use Rattle.script_words.specs.Text.{lines}
use Rattle.job_script.specs.declared.fault.FaultName.{FaultName}
use Rattle.job_script.specs.declared.fault.FaultName.TheVariants as names
use Rattle.job_script.specs.Steps.{◌>>=◌}
use Rattle.job_script.specs.Said.{LineSaid, Said, SetUpLineSaid, nothing, says_set_up}
use Rattle.job_script.specs.Lines.{line_of}
use Rattle.job_script.specs.Adding.{add_line}

-- a fault and its line
pub record FaultAt : Type 0 where
  pub line : ℕ
  pub name : FaultName

-- the script with what a line says that was read
abbrev pub adds : Result LineSaid FaultName → Said → Result Said FaultName
adds read s = read >>= λ line. add_line line s

-- the script with what a set-up line says that was read
abbrev pub adds_set_up : Result SetUpLineSaid FaultName → Said → Result Said FaultName
adds_set_up read s = read >>= λ line. add_line (says_set_up line) s

-- the script with the line that has this number and these bytes
abbrev pub script_with_line : ℕ → List ℕ → Said → Result Said FaultName
script_with_line line text s = adds (line_of line text) s

-- a line with a fault ends a script; else the lines after it follow
abbrev pub then_lines : ℕ → Result Said FaultName → (Said → Result Said FaultAt) → Result Said FaultAt
then_lines line (Ok s) others = others s
then_lines line (Err e) others = Err (record { line = line; name = e })

-- lines, the first of which has this number
unfoldable pub lines_from : ℕ → Said → List (List ℕ) → Result Said FaultAt
lines_from line s [] = Ok s
lines_from line s (text ∷ others) = then_lines line (script_with_line line text s) (λ next. lines_from (line + 1) next others)

-- no line declares the tasks, or no line declares a unit
abbrev pub lacks : Said → Bool
lacks s = (s.set_up.tasks == 0) || (length s.set_up.units == 0)

-- after the last line: a script that lacks tasks or units has a fault at line 0
abbrev pub at_end : Result Said FaultAt → Result Said FaultAt
at_end (Err fault) = Err fault
at_end (Ok s) = if lacks s then Err (record { line = 0; name = names.Order }) else Ok s

-- the script of a text, or its first fault; the first line has the number 1
unfoldable pub script_of : List ℕ → Result Said FaultAt
script_of text = at_end (lines_from 1 nothing (lines text))
