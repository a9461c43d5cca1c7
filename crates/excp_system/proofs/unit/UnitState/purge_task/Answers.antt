use Rattle.unit_book.proofs.WorldBooks.{keeps-purge}
use Rattle.request_piece.specs.declared.scope.Scope.TheVariants.{Task}
use Rattle.excp_system.proofs.Begins.{began_call, continues_purges}
use Rattle.unit_book.specs.declared.control.Control.TheVariants as control
use Rattle.excp_system.proofs.Logs.{log_task_purge, purge_is}
use Rattle.excp_system.proofs.Units.{unit-call}
use Rattle.excp_system.proofs.unit.UnitState.purge_task.Goals as goal

pub invariant_of-self : goal.invariant_of-self
invariant_of-self g c =
    let old = c.self.inside.book in
    let new = c.purge_task-answer.new.self in (
      unit-call g.D.Device.meaning g.S.Site.rows c.self.inside.unit old c.self.inside.intake c.self.inside.back c.self.inside.notice
          c.self.inside.owes c.self.invariant.0 c.holds.ensures.given
          c.purge_task-answer.result new c.self.inside.owes c.holds.ensures.legal c.holds.ensures.settled c.purge_task-answer.ensures.ok
          c.purge_task-answer.ensures.err
          (λ sound answer h. keeps-purge g.D.Device.meaning {scope = Task c.args.task} sound tt h),
      began_call c.purge_task-answer.result new c.self.invariant.1 c.purge_task-answer.ensures.ok c.purge_task-answer.ensures.err
          (λ answer h. continues_purges g.D.Device.meaning h),
      log_task_purge g.S.Site.rows.tasks old new (control.Purge (Task c.args.task) c.args.mode) c.self.invariant.2 c.purge_task-answer.result c.purge_task-answer.ensures.ok c.purge_task-answer.ensures.err
          (λ answer h. purge_is g.D.Device.meaning old new h) c.is_ok.result c.note.new.self c.is_ok.ensures.value c.note.ensures,
    )
