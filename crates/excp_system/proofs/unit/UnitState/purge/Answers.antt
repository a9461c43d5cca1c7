use Rattle.unit_book.proofs.WorldBooks.{keeps-purge}
use Rattle.unit_book.proofs.Kept.{done_and}
use Rattle.request_piece.specs.declared.scope.Scope.TheVariants.{Dcb}
use Rattle.excp_system.proofs.Begins.{began_call, continues_purges}
use Rattle.unit_book.specs.declared.control.Control.TheVariants as control
use Rattle.excp_system.proofs.Logs.{log_control, purge_is}
use Rattle.excp_system.proofs.Units.{unit-call}
use Rattle.excp_system.proofs.unit.UnitState.purge.Goals as goal

pub invariant_of-self : goal.invariant_of-self
invariant_of-self g c =
    let old = c.self.inside.book in
    let new = c.purge-answer.new.self in (
      unit-call g.D.Device.meaning g.S.Site.rows c.self.inside.unit old c.self.inside.intake c.self.inside.back c.self.inside.notice
          c.self.inside.owes c.self.invariant.0 c.holds.ensures.given
          c.purge-answer.result new c.self.inside.owes c.holds.ensures.legal c.holds.ensures.settled
          (done_and _ _ c.purge-answer.result c.purge-answer.ensures.ok c.purge-answer.ensures.opened) c.purge-answer.ensures.err
          (λ sound answer h. keeps-purge g.D.Device.meaning {scope = Dcb c.args.dcb} sound h.1 h.0),
      began_call c.purge-answer.result new c.self.invariant.1 c.purge-answer.ensures.ok c.purge-answer.ensures.err
          (λ answer h. continues_purges g.D.Device.meaning h),
      log_control g.S.Site.rows.tasks old new (control.Purge (Dcb c.args.dcb) c.args.mode) c.self.invariant.2 c.purge-answer.result c.purge-answer.ensures.ok
          c.purge-answer.ensures.refused c.purge-answer.ensures.err
          (λ answer h. purge_is g.D.Device.meaning old new h) c.is_asked.result c.note.new.self c.is_asked.ensures c.note.ensures,
    )
