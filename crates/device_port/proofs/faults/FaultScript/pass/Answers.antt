use Rattle.std.proofs.Common.{◌≡◌, ◌+◌, arith, subst, ℕ}
use Rattle.device_port.specs.Faults.{Follows, next_ordinal}
use Rattle.device_port.proofs.FaultLaws.{clear-here, clear-later, follows-missed}
use Rattle.device_port.proofs.faults.FaultScript.pass.Goals as goal

pub invariant_of-self : goal.invariant_of-self
invariant_of-self c =
    let script = c.self.inside.faults.items in
    let next = c.self.inside.next in
    let done = c.self.inside.done in
    let missed = clear-here script done c.self.inside.clear c.self.invariant.1 c.if-self.false in
    let counted : next_ordinal done ≡ done + 1 = omega (arith, c.if-self.false) in (
      subst (λ (n : ℕ). Follows script next n) counted
          (follows-missed script next done (omega (arith, c.if-self.false)) c.self.invariant.0 missed),
      clear-later script done (done + 1) c.self.inside.clear c.self.invariant.1 (omega arith),
    )
