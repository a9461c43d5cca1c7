use Rattle.std.proofs.Common.{◌≡◌, length, drop}
use Rattle.script_words.specs.Forms.{put_after, joined}
use Rattle.script_words.specs.Text.{words}
use Rattle.job_script.proofs.forms.joined_bytes.Given as goal

abbrev pub invariant-words : goal.invariant-words
invariant-words l = put_after l.bytes.items (joined (words l.left)) ≡ joined (drop 3 (words l.fn.line.line.now))

abbrev pub decreases-words : goal.decreases-words
decreases-words l = length (words l.left)
