use Rattle.std.proofs.Common.{◌≡◌, ◌<◌, ap, arith, false, length, refl, slice_get, Some, sym, true, ◌∙◌}
use Rattle.unit_queue.specs.Selection.{selects}
use Rattle.unit_queue.proofs.Sweeps.{next-fits, next-stays, popped-is, rooms, staying}
use Rattle.unit_queue.proofs.queue.WaitQueue.sweep.Goals as goal
use Rattle.unit_queue.proofs.queue.WaitQueue.sweep.Goals.{then-selects, else-selects}

pub push-requires : goal.push-requires
push-requires c =
    let test = selects c.args.selection.now in
    let below : c.loop.counter < length c.args.self.now.pieces = omega arith in
    let room = rooms test c.args.self.now.pieces c.args.into.now.pieces c.loop.counter below in
    rw c.loop.invariant.swept (omega (arith, room.0))

pub push-requires-else-selects : goal.push-requires-else-selects
push-requires-else-selects c =
    let test = selects c.args.selection.now in
    let below : c.loop.counter < length c.args.self.now.pieces = omega arith in
    let room = rooms test c.args.self.now.pieces c.args.into.now.pieces c.loop.counter below in
    rw (c.pop.ensures.rest, c.loop.invariant.kept) (omega (arith, room.1))

pub loop-preserved : goal.loop-preserved
loop-preserved c =
    let test = selects c.args.selection.now in
    let all = c.args.self.now.pieces in
    let before = c.args.into.now.pieces in
    let k = c.loop.counter in
    let x = c.unwrap-piece.result.value in
    let below : k < length all = omega arith in
    let first : Some x ≡ slice_get (staying test all k) 0 =
    rw (c.unwrap-piece.ensures, c.loop.invariant.kept) at c.pop.ensures.first in
    let is = popped-is test all k x below first in
    elim c.if-selects.branch [
      | then-selects w ↦
          let fits : test x ≡ true = sym (c.selects.ensures ∙ ap test c.deref.ensures) ∙ w.if-selects.true in
          let next = next-fits test all before k x below is fits in
          record {
            kept = rw (w.self-is, c.pop.ensures.rest, c.loop.invariant.kept, next.0) refl;
            swept = rw (w.into-is, w.push.ensures, c.loop.invariant.swept, next.1) refl;
          }
      | else-selects w ↦
          let stays : test x ≡ false = sym (c.selects.ensures ∙ ap test c.deref.ensures) ∙ w.if-selects.false in
          let next = next-stays test all before k x below is stays in
          record {
            kept = rw (w.self-is, w.push-else-selects.ensures, c.pop.ensures.rest, c.loop.invariant.kept, next.0) refl;
            swept = rw (w.into-is, c.loop.invariant.swept, next.1) refl;
          }
    ]
