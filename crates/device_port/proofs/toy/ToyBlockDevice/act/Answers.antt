use Rattle.std.proofs.Common.{◌≡◌, ◌∙◌, sym, ap, Some}
use Rattle.device_port.specs.Faults.{fault_met}
use Rattle.device_port.specs.MovesLaws.{received-nothing}
use Rattle.device_port.specs.Toy.{ToyBlock, toy_flow}
use Rattle.device_port.proofs.toy.ToyBlockDevice.act.Goals as goal

pub returns-in-Some-clause-area : goal.returns-in-Some-clause-area
returns-in-Some-clause-area c =
    let met : fault_met c.args.self.now.ordinals ≡ Some c.in-Some.fault = ap (λ (d : ToyBlock). fault_met d.ordinals) (sym c.self.view_is)
    ∙ sym c.count.ensures.fault ∙ c.in-Some.is in
    rw met (sym (received-nothing (toy_flow c.args.command) c.args.chain.now c.args.area.now))
