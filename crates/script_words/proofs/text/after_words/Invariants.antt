use Rattle.std.proofs.Common.{◌≡◌, drop}
use Rattle.script_words.specs.Text.{words}
use Rattle.script_words.proofs.text.after_words.Given as goal

abbrev pub invariant-loop : goal.invariant-loop
invariant-loop l = words l.rest ≡ drop l.counter (words l.line)
