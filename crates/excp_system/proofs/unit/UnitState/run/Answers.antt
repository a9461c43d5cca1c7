use Rattle.unit_book.proofs.WorldBooks.{keeps-run}
use Rattle.excp_system.proofs.Begins.{began_call, continues_runs}
use Rattle.excp_system.proofs.Logs.{log_call, quietly_runs}
use Rattle.excp_system.proofs.Units.{unit-call}
use Rattle.excp_system.proofs.unit.UnitState.run.Goals as goal

pub invariant_of-self-2 : goal.invariant_of-self-2
invariant_of-self-2 g c =
    let old = c.self.inside.book in
    let new = c.run.new.self in (
      unit-call g.D.Device.meaning g.S.Site.rows c.self.inside.unit old c.self.inside.intake c.self.inside.back c.self.inside.notice
          c.self.inside.owes c.self.invariant.0 c.holds.ensures.given
          c.run.result new c.self.inside.owes c.holds.ensures.legal c.holds.ensures.settled c.run.ensures.ok c.run.ensures.err
          (λ sound answer h. keeps-run g.D.Device.meaning answer sound c.requires h),
      began_call c.run.result new c.self.invariant.1 c.run.ensures.ok c.run.ensures.err
          (λ answer h. continues_runs g.D.Device.meaning c.args.max answer h),
      log_call c.run.result old new c.self.invariant.2 c.run.ensures.ok c.run.ensures.err
          (λ answer h. quietly_runs g.D.Device.meaning old new c.args.max answer h),
    )
