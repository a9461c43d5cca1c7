use Rattle.std.proofs.Common.{◌≡◌, ◌∷◌, length}
use Rattle.ccw_programs.specs.Step.{ending}
use Rattle.ccw_programs.proofs.ending.ending_of.Given as goal

abbrev pub invariant-loop-rest : goal.invariant-loop-rest
invariant-loop-rest l = record {
  told : ending l.links l.n ≡ ending (l.link ∷ l.rest) l.left;
}

abbrev pub decreases-loop-rest : goal.decreases-loop-rest
decreases-loop-rest l = length l.rest
