use Rattle.std.proofs.Common.{◌≡◌, ◌∙◌, sym, ap, Some}
use Rattle.device_port.specs.Faults.{fault_met}
use Rattle.device_port.specs.MovesLaws.{received-nothing}
use Rattle.ckd_disk.specs.Command.{command_of, flow_of}
use Rattle.ckd_disk.specs.Disk.{DiskState}
use Rattle.ckd_disk.proofs.disk.Disk.act_or_fault.Goals as goal

-- a command that meets a fault moves nothing
pub returns-in-Some-clause-area : goal.returns-in-Some-clause-area
returns-in-Some-clause-area c =
    let met : fault_met c.args.self.now.ordinals ≡ Some c.in-Some.fault = ap (λ (d : DiskState). fault_met d.ordinals) (sym c.self.view_is)
    ∙ sym c.count.ensures.fault ∙ c.in-Some.is in
    rw met (sym (received-nothing (flow_of (command_of c.args.command)) c.args.chain.now c.args.area.now))
