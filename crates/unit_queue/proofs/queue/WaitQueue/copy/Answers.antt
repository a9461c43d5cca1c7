use Rattle.unit_queue.proofs.Copies.{take-next}
use Rattle.std.proofs.Common.{refl}
use Rattle.unit_queue.proofs.queue.WaitQueue.copy.Goals as goal

pub loop-at-preserved : goal.loop-at-preserved
loop-at-preserved c =
    let next = take-next c.args.self.now.pieces c.loop-at.at c.in_ok-copy_at.field-0.value c.in_ok-copy_at.ensures in
    rw (c.push.ensures, c.loop-at.invariant, next) refl
