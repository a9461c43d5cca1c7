use Rattle.std.proofs.Common.{rules}
use Rattle.device_port.proofs.FaultLaws.{follows-some, follows-none}
use Rattle.device_port.proofs.faults.place_behind.Goals as goal

pub returns-then-is_some : goal.returns-then-is_some
returns-then-is_some c =
    follows-some c.args.faults.now c.args.next c.args.done c.args.met.now c.requires.follows c.requires.met
    (rw (← c.is_some.ensures) c.if-is_some.true)

pub returns-else-is_some : goal.returns-else-is_some
returns-else-is_some c =
    follows-none c.args.faults.now c.args.next c.args.done c.args.met.now (search rules) c.requires.follows c.requires.met
    (rw (← c.is_some.ensures) c.if-is_some.false)
