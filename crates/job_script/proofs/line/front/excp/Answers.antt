use Rattle.job_script.proofs.Front.{excp_first}
use Rattle.job_script.proofs.line.front.excp.Goals as goal

pub returns : goal.returns
returns c =
    excp_first c.args.number c.in_ok-task.task c.in_ok-unit.unit c.in_ok-dcb.dcb c.in_ok-iob.iob c.in_ok-area.area c.in_ok-show.show
    c.in_ok-len.len c.args.text.now c.in_ok-rest.rest.now c.in_ok-task.rest.now c.in_ok-unit.rest.now c.in_ok-dcb.rest.now
    c.in_ok-iob.rest.now c.in_ok-area.rest.now c.in_ok-show.rest.now c.in_ok-len.rest.now c.in_ok-rest.ensures
    c.in_ok-task.ensures.front c.in_ok-unit.ensures.front c.in_ok-dcb.ensures.front c.in_ok-iob.ensures.front c.in_ok-area.ensures
    c.in_ok-show.ensures.front c.in_ok-len.ensures
