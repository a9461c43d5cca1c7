use Rattle.std.proofs.Common.{◌≡◌, ◌∙◌, sym, ap, subst, Some, arith}
use Rattle.device_port.specs.declared.kind.Flow.{Flow}
use Rattle.device_port.specs.declared.kind.Flow.TheVariants as flow
use Rattle.device_port.specs.Faults.{fault_met}
use Rattle.device_port.specs.Moves.{CanAct}
use Rattle.device_port.specs.MovesLaws.{received-nothing}
use Rattle.device_port.proofs.Gathering.{length-gathered}
use Rattle.tape_unit.specs.declared.command.Command.{Command}
use Rattle.tape_unit.specs.Command.{command_of, flow_of}
use Rattle.tape_unit.specs.Tape.{TapeState}
use Rattle.tape_unit.proofs.tape.TapeDevice.act.Goals as goal

-- a command that meets a fault moves nothing
pub returns-in-Some-clause-area : goal.returns-in-Some-clause-area
returns-in-Some-clause-area c =
    let met : fault_met c.args.self.now.ordinals ≡ Some c.in-Some.fault = ap (λ (t : TapeState). fault_met t.ordinals) (sym c.self.view_is)
    ∙ sym c.count.ensures.fault ∙ c.in-Some.is in
    rw met (sym (received-nothing (flow_of (command_of c.args.command)) c.args.chain.now c.args.area.now))

-- the program gives a byte at least
pub write_from-requires-clause-some : goal.write_from-requires-clause-some
write_from-requires-clause-some c =
    let out : flow_of (command_of c.args.command) ≡ flow.Out =
    ap flow_of (sym c.decode.ensures ∙ c.in-Some-Write.is ∙ ap (λ (x : Command). Some x) c.in-Some-Write.field-0-is) in
    let can = subst (λ (f : Flow). CanAct f c.args.area.now c.args.chain.now) out c.requires in
    omega (arith, can.1, length-gathered c.args.area.now c.args.chain.now can.0)
