use Rattle.unit_book.proofs.Kept.{either_way}
use Rattle.unit_book.proofs.WorldBooks.{Sound, keeps-open, keeps-again}
use Rattle.excp_system.proofs.Begins.{began_then, continues_again, continues_opens}
use Rattle.excp_system.proofs.Logs.{keeps_opens, log_goes, quietly_again}
use Rattle.excp_system.proofs.Units.{unit-keeps}
use Rattle.excp_system.proofs.unit.UnitState.open.Goals as goal

pub invariant_of-self : goal.invariant_of-self
invariant_of-self g c =
    let meaning = g.D.Device.meaning in
    let old = c.self.inside.book in
    let new = c.open.new.self in
    let sound : Sound meaning old = record { legal = c.holds.ensures.legal; settled = c.holds.ensures.settled } in (
      unit-keeps g.D.Device.meaning g.S.Site.rows c.self.inside.unit old c.self.inside.intake c.self.inside.back c.self.inside.notice
          c.self.inside.owes c.self.invariant.0 c.holds.ensures.given new c.self.inside.owes
          (either_way c.open.result c.open.ensures.ok c.open.ensures.err
          (λ dcb h. keeps-open meaning sound h)
          (λ same. keeps-again meaning old.awaits sound same)),
      began_then c.self.invariant.1 (either_way c.open.result c.open.ensures.ok c.open.ensures.err
          (λ dcb h. continues_opens meaning h) (λ same. continues_again old.awaits same)),
      log_goes c.self.invariant.2 (either_way c.open.result c.open.ensures.ok c.open.ensures.err
          (λ dcb h. keeps_opens meaning g.S.Site.own_calls old new c.requires h)
          (λ same. quietly_again old new old.awaits same g.S.Site.own_calls)),
    )
