use Rattle.unit_book.proofs.WorldBooks.{keeps-interrupt}
use Rattle.excp_system.proofs.Begins.{began_call, continues_interrupts}
use Rattle.excp_system.proofs.Logs.{log_call, quietly_interrupts}
use Rattle.excp_system.proofs.Units.{unit-call}
use Rattle.excp_system.proofs.unit.UnitState.interrupt.Goals as goal

pub invariant_of-self : goal.invariant_of-self
invariant_of-self g c =
    let old = c.self.inside.book in
    let new = c.interrupt-answer.new.self in (
      unit-call g.D.Device.meaning g.S.Site.rows c.self.inside.unit old c.self.inside.intake c.self.inside.back c.self.inside.notice
          c.self.inside.owes c.self.invariant.0 c.holds.ensures.given
          c.interrupt-answer.result new _ c.holds.ensures.legal c.holds.ensures.settled c.interrupt-answer.ensures.ok
          c.interrupt-answer.ensures.err (λ sound answer h. keeps-interrupt g.D.Device.meaning answer sound h),
      began_call c.interrupt-answer.result new c.self.invariant.1 c.interrupt-answer.ensures.ok c.interrupt-answer.ensures.err
          (λ answer h. continues_interrupts g.D.Device.meaning answer h),
      log_call c.interrupt-answer.result old new c.self.invariant.2 c.interrupt-answer.ensures.ok c.interrupt-answer.ensures.err
          (λ answer h. quietly_interrupts g.D.Device.meaning old new answer h),
    )
