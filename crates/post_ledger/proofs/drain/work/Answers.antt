use Rattle.std.proofs.Common.{ap}
use Rattle.excp_system.specs.States.{Locked}
use Rattle.post_ledger.proofs.Works.{works_more, works_same, works_served}
use Rattle.post_ledger.proofs.drain.work.Goals as goal

pub returns-in_err-settle-clause-works : goal.returns-in_err-settle-clause-works
returns-in_err-settle-clause-works g c =
    let e = c.settle.ensures in
    works_more c.args.unit.now c.receive.new.unit c.settle.new.self c.receive.ensures
    (works_served c.receive.new.unit c.settle.new.self (ap (λ (v : Locked _). v.unit) e.notice) e.mounted e.adds)

pub returns-clause-works : goal.returns-clause-works
returns-clause-works g c =
    let e = c.settle.ensures in
    let back = c.give_back.ensures in
    works_more c.args.unit.now c.settle.new.self c.give_back.new.unit
    (works_more c.args.unit.now c.receive.new.unit c.settle.new.self c.receive.ensures
    (works_served c.receive.new.unit c.settle.new.self (ap (λ (v : Locked _). v.unit) e.notice) e.mounted e.adds))
    (works_same c.settle.new.self c.give_back.new.unit back.unit back.mounted back.trace)
