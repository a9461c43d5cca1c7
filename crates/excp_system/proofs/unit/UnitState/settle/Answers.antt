use Rattle.unit_book.proofs.Kept.{keeps-settles}
use Rattle.unit_book.proofs.WorldBooks.{Sound}
use Rattle.excp_system.proofs.Begins.{began_then, continues_served}
use Rattle.excp_system.proofs.Logs.{log_quietly, quietly_settles}
use Rattle.excp_system.proofs.Units.{unit-keeps}
use Rattle.excp_system.proofs.unit.UnitState.settle.Goals as goal

pub invariant_of-self : goal.invariant_of-self
invariant_of-self g c =
    let meaning = g.D.Device.meaning in
    let old = c.self.inside.book in
    let new = c.settle-answer.new.self in
    let sound : Sound meaning old = record { legal = c.holds.ensures.legal; settled = c.holds.ensures.settled } in (
      unit-keeps g.D.Device.meaning g.S.Site.rows c.self.inside.unit old c.self.inside.intake c.self.inside.back c.self.inside.notice
          c.self.inside.owes c.self.invariant.0 c.holds.ensures.given new _
          (keeps-settles meaning sound c.settle-answer.ensures.steps),
      began_then c.self.invariant.1 (continues_served c.settle-answer.ensures.mounted c.settle-answer.ensures.isc
          c.settle-answer.ensures.capacity c.settle-answer.ensures.adds),
      log_quietly c.self.invariant.2 (quietly_settles old new c.settle-answer.ensures.adds),
    )
