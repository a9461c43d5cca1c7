use Rattle.unit_book.proofs.WorldBooks.{keeps-reset}
use Rattle.unit_book.proofs.Kept.{done_and}
use Rattle.unit_book.specs.Answers.{Adds}
use Rattle.unit_book.specs.declared.entry.Entry.TheVariants.{Reset}
use Rattle.excp_system.proofs.Begins.{began_call, continues_adds}
use Rattle.unit_book.specs.declared.control.Control.TheVariants as control
use Rattle.excp_system.proofs.Logs.{log_control, reset_is}
use Rattle.excp_system.proofs.Units.{unit-call}
use Rattle.excp_system.proofs.unit.UnitState.reset.Goals as goal

pub invariant_of-self : goal.invariant_of-self
invariant_of-self g c =
    let old = c.self.inside.book in
    let new = c.reset-answer.new.self in (
      unit-call g.D.Device.meaning g.S.Site.rows c.self.inside.unit old c.self.inside.intake c.self.inside.back c.self.inside.notice
          c.self.inside.owes c.self.invariant.0 c.holds.ensures.given
          c.reset-answer.result new c.self.inside.owes c.holds.ensures.legal c.holds.ensures.settled
          (done_and _ _ c.reset-answer.result c.reset-answer.ensures.ok c.reset-answer.ensures.opened) c.reset-answer.ensures.err
          (λ sound answer h. keeps-reset g.D.Device.meaning sound h.1 h.0),
      began_call c.reset-answer.result {Done = λ _. Adds old (Reset c.args.dcb) new} new c.self.invariant.1 c.reset-answer.ensures.ok
          c.reset-answer.ensures.err (λ _ h. continues_adds (Reset c.args.dcb) h),
      log_control g.S.Site.rows.tasks old new (control.Reset c.args.dcb) c.self.invariant.2 c.reset-answer.result c.reset-answer.ensures.ok
          c.reset-answer.ensures.refused c.reset-answer.ensures.err
          (λ answer h. reset_is g.D.Device.meaning old new h) c.is_asked.result c.note.new.self c.is_asked.ensures c.note.ensures,
    )
