use Rattle.unit_book.proofs.WorldBooks.{keeps-start}
use Rattle.excp_system.proofs.Begins.{began_call, continues_starts}
use Rattle.excp_system.proofs.Logs.{log_call, quietly_starts}
use Rattle.excp_system.proofs.Units.{unit-call}
use Rattle.excp_system.proofs.unit.UnitState.start.Goals as goal

pub invariant_of-self : goal.invariant_of-self
invariant_of-self g c =
    let old = c.self.inside.book in
    let new = c.start.new.self in (
      unit-call g.D.Device.meaning g.S.Site.rows c.self.inside.unit old c.self.inside.intake c.self.inside.back c.self.inside.notice
          c.self.inside.owes c.self.invariant.0 c.holds.ensures.given
          c.start.result new c.self.inside.owes c.holds.ensures.legal c.holds.ensures.settled c.start.ensures.ok c.start.ensures.err
          (λ sound answer h. keeps-start g.D.Device.meaning answer sound h),
      began_call c.start.result new c.self.invariant.1 c.start.ensures.ok c.start.ensures.err
          (λ answer h. continues_starts g.D.Device.meaning answer h),
      log_call c.start.result old new c.self.invariant.2 c.start.ensures.ok c.start.ensures.err
          (λ answer h. quietly_starts g.D.Device.meaning old new answer h),
    )
