use Rattle.std.proofs.Common.{◌≡◌, ◌+◌, ◌==◌, ◌∙◌, get_or, arith, rules, true, false, sym, refl, inl, inr}
use Rattle.std.proofs.lemmas.Bool.Decides.{nat_tests}
use Rattle.device_port.specs.declared.faults.Fault.{Fault}
use Rattle.device_port.proofs.FaultLaws.{met-late, met-end, met-there}
use Rattle.device_port.proofs.faults.fault_met.Goals as goal

pub returns-then-done-clause-met : goal.returns-then-done-clause-met
returns-then-done-clause-met c = elim c.then-done.either [
  | inl late ↦ sym (met-late c.args.faults.now c.args.done (omega arith))
  | inr end ↦ sym (met-end c.args.faults.now c.args.next c.args.done c.requires (end.1))
]

pub returns-then-fault-done-clause-met : goal.returns-then-fault-done-clause-met
returns-then-fault-done-clause-met c =
    let f : Fault = get_or c.args.faults.now c.args.next
    (record { ordinal = 0; unit = record { 0 = 0 }; sub = record { 0 = 0 }; sense = 0 }) in
    let yes : (f.ordinal == c.args.done + 1) ≡ true = grind (arith, nat_tests, c.if-fault-done.true) in
    sym (met-there c.args.faults.now c.args.next c.args.done f c.requires (omega arith) c.if-next-faults.false (search rules) ∙ rw yes refl)

pub returns-else-fault-done-clause-met : goal.returns-else-fault-done-clause-met
returns-else-fault-done-clause-met c =
    let f : Fault = get_or c.args.faults.now c.args.next
    (record { ordinal = 0; unit = record { 0 = 0 }; sub = record { 0 = 0 }; sense = 0 }) in
    let no : (f.ordinal == c.args.done + 1) ≡ false = grind (arith, nat_tests, c.if-fault-done.false) in
    sym (met-there c.args.faults.now c.args.next c.args.done f c.requires (omega arith) c.if-next-faults.false (search rules) ∙ rw no refl)
