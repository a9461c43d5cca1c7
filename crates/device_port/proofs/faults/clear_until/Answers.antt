use Rattle.std.proofs.Common.{get_or, rules}
use Rattle.device_port.specs.declared.faults.Fault.{Fault}
use Rattle.device_port.proofs.FaultLaws.{clear-below, clear-end}
use Rattle.device_port.proofs.faults.clear_until.Goals as goal

pub returns-then-next-faults : goal.returns-then-next-faults
returns-then-next-faults c =
    let f : Fault = get_or c.args.faults.now c.args.next
    (record { ordinal = 0; unit = record { 0 = 0 }; sub = record { 0 = 0 }; sense = 0 }) in
    rw c.saturating_sub.ensures
    (clear-below c.args.faults.now c.args.next c.args.done f c.requires c.if-next-faults.true (search rules) (search rules))

pub returns-else-next-faults : goal.returns-else-next-faults
returns-else-next-faults c = clear-end c.args.faults.now c.args.next c.args.done c.requires c.if-next-faults.false
