use Rattle.std.proofs.Common.{arith}
use Rattle.job_script.proofs.script.Script.leading_line.Goals as goal

pub returns-in-Some-fault-clause-line : goal.returns-in-Some-fault-clause-line
returns-in-Some-fault-clause-line c = (c.in-Some-fault.ensures c.args.number).split

pub returns-in-Some-fault-clause-shorter : goal.returns-in-Some-fault-clause-shorter
returns-in-Some-fault-clause-shorter c = omega (arith, (c.in-Some-fault.ensures c.args.number).shorter)
