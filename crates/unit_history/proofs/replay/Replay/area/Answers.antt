use Rattle.std.proofs.Common.{subst, reverse}
use Rattle.unit_history.specs.Ties.{ReplayTies}
use Rattle.unit_history.proofs.Steps.{area-shown, legal-reversed}
use Rattle.unit_history.proofs.replay.Replay.area.Goals as goal

pub returns-in-Some : goal.returns-in-Some
returns-in-Some g c =
    let m = g.D.Device.meaning in
    let i = c.self.inside in
    let a = c.in-Some.attempt in
    let t = subst (λ x. ReplayTies m i.book.now.mounted (reverse i.book.now.trace) i.done i.ran i.device x) c.in-Some.is c.self.invariant in
    let l = legal-reversed m i.book.now.mounted i.book.now.trace c.holds.ensures.legal in
    rw (← c.self.view_is)
    (a.issued.now.name, t.attempt_is.is, area-shown m i.book.now.mounted (reverse i.book.now.trace) i.done i.ran a l t)
