use Rattle.std.proofs.Common.{◌≡◌, length, drop}
use Rattle.script_words.specs.Forms.{put_after, each}
use Rattle.script_words.specs.Text.{words}
use Rattle.job_script.specs.Forms.{extent}
use Rattle.job_script.proofs.forms.extents.Given as goal

abbrev pub invariant-words : goal.invariant-words
invariant-words l = put_after l.extents.items (each extent (words l.left)) ≡ each extent (drop 3 (words l.fn.line.line.now))

abbrev pub decreases-words : goal.decreases-words
decreases-words l = length (words l.left)
