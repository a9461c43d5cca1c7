use Rattle.std.proofs.Common.{◌≡◌, ◌≤◌, ◌+◌, length}
use Rattle.std.specs.Prelude.{option_copied}
use Rattle.script_words.specs.Text.{bytes_left, lines, lines_left}
use Rattle.job_script.specs.Grammar.{lines_from}
use Rattle.job_script.specs.Said.{nothing}
use Rattle.job_script.specs.Views.{said}
use Rattle.job_script.proofs.script.Script.parse.Given as goal

abbrev pub invariant-lines : goal.invariant-lines
invariant-lines l = record {
  read : lines_from l.number (said l.script) (lines_left (option_copied l.left)) ≡ lines_from 1 nothing (lines l.fn.text);
  few : l.number + bytes_left (option_copied l.left) ≤ length l.fn.text + 2;
}

abbrev pub decreases-lines : goal.decreases-lines
decreases-lines l = bytes_left (option_copied l.left)
