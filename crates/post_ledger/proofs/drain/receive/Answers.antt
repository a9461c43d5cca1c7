use Rattle.post_ledger.proofs.Works.{works_more, works_taking}
use Rattle.post_ledger.proofs.drain.receive.Goals as goal

pub loop-preserved : goal.loop-preserved
loop-preserved g c =
    works_more c.args.unit.now c.loop.unit c.take.new.self c.loop.invariant
    (works_taking g.D.Device.meaning g.S.Site.rows c.loop.unit c.take.new.self c.in_ok-take.field-0 c.in_ok-take.ensures.answer)
