use Rattle.std.proofs.Common.{◌≡◌}
use Rattle.unit_queue.specs.Selection.{selects}
use Rattle.unit_queue.specs.Queue.{queue}
use Rattle.unit_queue.proofs.Sweeps.{moved, staying}
use Rattle.unit_queue.proofs.queue.WaitQueue.sweep.Given as goal

abbrev pub invariant-loop : goal.invariant-loop
invariant-loop l = record {
  kept : l.self ≡ queue (staying (selects l.selection) l.fn.self.pieces l.counter) l.fn.self.capacity;
  swept : l.into ≡ queue (moved (selects l.selection) l.fn.into.pieces l.fn.self.pieces l.counter) l.fn.into.capacity;
}
