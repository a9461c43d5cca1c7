use Rattle.excp_system.proofs.Begins.{began_call}
use Rattle.excp_system.proofs.Logs.{does, log_control}
use Rattle.excp_system.proofs.Units.{unit-call}
use Rattle.excp_system.proofs.unit.UnitState.control.Goals as goal

pub invariant_of-self : goal.invariant_of-self
invariant_of-self g c =
    let meaning = g.D.Device.meaning in
    let old = c.self.inside.book in
    let new = c.control-answer.new.self in
    let asked = c.args.control in (
      unit-call meaning g.S.Site.rows c.self.inside.unit old c.self.inside.intake c.self.inside.back c.self.inside.notice
          c.self.inside.owes c.self.invariant.0 c.holds.ensures.given
          c.control-answer.result new c.self.inside.owes c.holds.ensures.legal c.holds.ensures.settled c.control-answer.ensures.ok
          c.control-answer.ensures.err (λ sound answer h. (does meaning old new asked answer h).keeps sound),
      began_call c.control-answer.result new c.self.invariant.1 c.control-answer.ensures.ok c.control-answer.ensures.err
          (λ answer h. (does meaning old new asked answer h).continues),
      log_control c.args.pens.now.number old new (asked) c.self.invariant.2 c.control-answer.result c.control-answer.ensures.ok
          c.control-answer.ensures.refused c.control-answer.ensures.err
          (λ answer h. (does meaning old new asked answer h).is_asked) c.is_asked.result c.note.new.log c.is_asked.ensures c.note.ensures.log,
    )
