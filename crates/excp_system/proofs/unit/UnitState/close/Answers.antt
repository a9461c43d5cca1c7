use Rattle.unit_book.proofs.WorldBooks.{keeps-close}
use Rattle.excp_system.proofs.Begins.{began_call, continues_closes}
use Rattle.unit_book.specs.declared.control.Control.TheVariants as control
use Rattle.excp_system.proofs.Logs.{log_control, close_is}
use Rattle.excp_system.proofs.Units.{unit-call}
use Rattle.excp_system.proofs.unit.UnitState.close.Goals as goal

pub invariant_of-self : goal.invariant_of-self
invariant_of-self g c =
    let old = c.self.inside.book in
    let new = c.close-answer.new.self in (
      unit-call g.D.Device.meaning g.S.Site.rows c.self.inside.unit old c.self.inside.intake c.self.inside.back c.self.inside.notice
          c.self.inside.owes c.self.invariant.0 c.holds.ensures.given
          c.close-answer.result new c.self.inside.owes c.holds.ensures.legal c.holds.ensures.settled c.close-answer.ensures.ok c.close-answer.ensures.err
          (λ sound answer h. keeps-close g.D.Device.meaning sound h),
      began_call c.close-answer.result new c.self.invariant.1 c.close-answer.ensures.ok c.close-answer.ensures.err
          (λ answer h. continues_closes g.D.Device.meaning h),
      log_control g.S.Site.rows.tasks old new (control.Close c.args.dcb) c.self.invariant.2 c.close-answer.result c.close-answer.ensures.ok
          c.close-answer.ensures.refused c.close-answer.ensures.err
          (λ answer h. close_is g.D.Device.meaning old new h) c.is_asked.result c.note.new.self c.is_asked.ensures c.note.ensures,
    )
