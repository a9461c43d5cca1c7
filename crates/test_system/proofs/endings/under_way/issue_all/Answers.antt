use Rattle.std.proofs.Common.{◌<◌, arith, length}
use Rattle.post_ledger.proofs.Works.{placed_set}
use Rattle.test_system.proofs.endings.under_way.issue_all.Goals as goal

pub index_mut-task-requires : goal.index_mut-task-requires
index_mut-task-requires g c = omega (arith, c.loop-place.invariant.count_is, c.requires.one)

pub loop-place-preserved : goal.loop-place-preserved
loop-place-preserved g c =
    let tasks = c.loop-place.tasks.items in
    let lt : 0 < length tasks = omega (arith, c.loop-place.invariant.count_is, c.requires.one) in
    placed_set g.S.Site.rows.tasks tasks 0 c.index_mut-task.result.now c.issue_over.new.task lt c.index_mut-task.ensures.value
    c.issue_over.ensures
    c.loop-place.invariant
