use Rattle.std.proofs.Common.{◌≡◌, take}
use Rattle.unit_queue.specs.Queue.{queue}
use Rattle.unit_queue.proofs.queue.WaitQueue.copy.Given as goal

abbrev pub invariant-loop-at : goal.invariant-loop-at
invariant-loop-at l = l.copy ≡ queue (take l.at l.self.pieces) l.self.capacity
