use Rattle.unit_book.proofs.Names.{◌<◌, arith, length}
use Rattle.unit_book.proofs.DcbRows.{unflag-next}
use Rattle.unit_book.proofs.dcb.unflag_all.Goals as goal

pub loop-place-preserved : goal.loop-place-preserved
loop-place-preserved c =
    let row = c.index_mut.result.now in
    let at = c.loop-place.invariant in
    let there : c.loop-place.place < length c.args.rows.now.items = omega (arith, c.loop-place-test.true, c.len-place-end.ensures) in
    let next = unflag-next c.loop-place.place c.args.rows.now.items row there (rw (← at) c.index_mut.ensures.value) in
    rw c.unflag.ensures (rw at next)
