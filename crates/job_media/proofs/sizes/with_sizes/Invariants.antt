use Rattle.std.proofs.Common.{◌≡◌, ◌++◌}
use Rattle.std.specs.Prelude.{option_copied}
use Rattle.script_words.specs.Text.{bytes_left}
use Rattle.job_media.specs.Sizes.{text_with_sizes}
use Rattle.job_media.proofs.Lines.{left_with}
use Rattle.job_media.proofs.sizes.with_sizes.Given as goal

abbrev pub invariant-loop-left : goal.invariant-loop-left
invariant-loop-left l = l.whole.items ++ left_with l.sizes (option_copied l.left) ≡ text_with_sizes l.sizes l.fn.text

abbrev pub decreases-loop-left : goal.decreases-loop-left
decreases-loop-left l = bytes_left (option_copied l.left)
