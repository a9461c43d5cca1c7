use Rattle.job_script.proofs.Front.{fault_first}
use Rattle.job_script.proofs.line.front.fault.Goals as goal

pub returns : goal.returns
returns c = λ number.
    fault_first number c.in_ok-unit.unit c.in_ok-ordinal.ordinal c.in_ok-sense.sense c.new.result c.new-2.result c.args.text.now
    c.in_ok-rest.rest.now c.in_ok-unit.rest.now c.in_ok-ordinal.rest.now c.in_ok-status.rest.now c.in_ok-sub.rest.now
    c.in_ok-sense.rest.now c.in_ok-rest.ensures c.in_ok-unit.ensures.front c.in_ok-ordinal.ensures
    (rw c.new.ensures c.in_ok-status.ensures.front) (rw c.new-2.ensures c.in_ok-sub.ensures.front) c.in_ok-sense.ensures.front
