use Rattle.std.proofs.Common.{length}
use Rattle.ckd_disk.proofs.Volumes.{Walked}
use Rattle.ckd_disk.proofs.volume.extent_of.Given as goal

abbrev pub invariant-loop-rest : goal.invariant-loop-rest
invariant-loop-rest l = Walked l.size l.bytes l.rest l.used l.count

abbrev pub decreases-loop-rest : goal.decreases-loop-rest
decreases-loop-rest l = length l.rest
