use Rattle.std.proofs.Common.{◌≡◌, ◌<◌, ℕ, false, get_or}
use Rattle.script_words.specs.Scan.{is_word_byte}
use Rattle.script_words.proofs.text.spaces.Given as goal

abbrev pub invariant-loop-place : goal.invariant-loop-place
invariant-loop-place l = (k : ℕ) → k < l.place → is_word_byte (get_or l.line k 0) ≡ false
