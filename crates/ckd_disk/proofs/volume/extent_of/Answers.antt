use Rattle.std.proofs.Common.{arith}
use Rattle.ckd_disk.proofs.Volumes.{walk_past, walk_few, walk_more, walk_ended}
use Rattle.ckd_disk.proofs.volume.extent_of.Goals as goal

pub returns-then-room-used-clause-refused : goal.returns-then-room-used-clause-refused
returns-then-room-used-clause-refused c =
    let l = c.loop-rest in
    walk_past c.args.size c.args.bytes.now l.rest.now l.used l.count c.starts_with.result l.invariant c.starts_with.ensures.value
    c.loop-rest-test.true (omega (arith, l.invariant.within)) (omega (arith, l.invariant.within, c.size_of_first-len.ensures))

pub overflow_add-count : goal.overflow_add-count
overflow_add-count c =
    let l = c.loop-rest in
    omega (arith, walk_few c.args.size c.args.bytes.now l.rest.now l.used l.count l.invariant, l.invariant.within)

pub loop-rest-preserved : goal.loop-rest-preserved
loop-rest-preserved c =
    let l = c.loop-rest in
    walk_more c.args.size c.args.bytes.now l.rest.now c.split_at.result.1.now l.used l.count c.size_of_first-len.result l.invariant
    (λ i. omega (arith, c.type_inv.bytes i)) c.size_of_first-len.ensures (omega (arith, l.invariant.within)) c.split_at.ensures.back

pub returns-clause-records : goal.returns-clause-records
returns-clause-records c =
    let l = c.loop-rest in
    walk_ended c.args.size c.args.bytes.now l.rest.now l.used l.count c.starts_with.result l.invariant c.starts_with.ensures.value
    c.loop-rest-test.false (omega arith)
