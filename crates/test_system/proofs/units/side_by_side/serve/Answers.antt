use Rattle.std.proofs.Common.{◌<◌, arith, length}
use Rattle.post_ledger.proofs.Works.{placed_set}
use Rattle.test_system.proofs.units.side_by_side.serve.Goals as goal

pub index_mut-task-requires : goal.index_mut-task-requires
index_mut-task-requires g c = omega (arith, c.requires.tasks.count_is, c.requires.one)

pub returns : goal.returns
returns g c =
    let tasks = c.args.tasks.items in
    let lt : 0 < length tasks = omega (arith, c.requires.tasks.count_is, c.requires.one) in
    placed_set g.S.Site.rows.tasks tasks 0 c.index_mut-task.result.now c.exchange.new.task lt c.index_mut-task.ensures.value
    c.exchange.ensures c.requires.tasks
