use Rattle.std.proofs.Common.{[]}
use Rattle.post_ledger.proofs.Endings.{controls_first, posted_first, received_first}
use Rattle.system_threads.proofs.Running.{returned_later}
use Rattle.system_threads.proofs.run.brought_to_end.Goals as goal

pub returns-in-Ok-resume-clause-received : goal.returns-in-Ok-resume-clause-received
returns-in-Ok-resume-clause-received g c =
    received_first g.S.Site.rows.units c.args.tasks.items c.in-Err.left.tasks [] c.in-Err.left.lists c.in-Err.ensures.collects
    c.in-Ok-resume.report c.in-Ok-resume.ensures.received

pub returns-in-Ok-resume-clause-controlled : goal.returns-in-Ok-resume-clause-controlled
returns-in-Ok-resume-clause-controlled g c =
    controls_first g.S.Site.rows.units c.args.tasks.items c.in-Err.left.tasks [] c.in-Err.left.lists c.in-Err.ensures.collects
    c.in-Ok-resume.report g.S.Site.own_calls g.S.Opened.opened c.in-Ok-resume.ensures.controlled

pub returns-in-Ok-resume-clause-posted_once : goal.returns-in-Ok-resume-clause-posted_once
returns-in-Ok-resume-clause-posted_once g c =
    posted_first g.S.Site.rows.units c.args.tasks.items c.in-Err.left.tasks [] c.in-Err.left.lists c.in-Err.ensures.collects
    c.in-Ok-resume.report c.in-Ok-resume.ensures.posted_once

pub returns-in-Ok-resume-clause-returned : goal.returns-in-Ok-resume-clause-returned
returns-in-Ok-resume-clause-returned g c =
    returned_later g.D.Device.meaning g.S.Site.rows.units c.args.tasks.items c.in-Err.left.tasks c.in-Err.left.lists
    c.in-Ok-resume.report c.in-Err.ensures.collects c.in-Ok-resume.ensures.complete.of_units c.in-Ok-resume.ensures.returned
