use Rattle.std.proofs.Common.{◌≡◌, length}
use Rattle.medium_image.specs.Paper.{without_blanks}
use Rattle.medium_image.proofs.paper.without_blanks.Given as goal

abbrev pub invariant-loop-last : goal.invariant-loop-last
invariant-loop-last l = without_blanks l.line ≡ without_blanks l.fn.line

abbrev pub decreases-loop-last : goal.decreases-loop-last
decreases-loop-last l = length l.line
