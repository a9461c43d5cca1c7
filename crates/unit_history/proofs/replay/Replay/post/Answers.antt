use Rattle.std.proofs.Common.{reverse, subst, sym, ◌∙◌}
use Rattle.unit_book.proofs.Lists.{no_both, same-is, same-true}
use Rattle.unit_history.specs.Ties.{ReplayTies}
use Rattle.unit_history.proofs.Begun.{posted-active, posted-none, posted-other}
use Rattle.unit_history.proofs.Steps.{legal-reversed}
use Rattle.unit_history.proofs.replay.Replay.post.Goals as goal
use Rattle.unit_history.proofs.replay.Replay.post.Goals.{in-Some+then-eq+in-Some-1, in-Some+then-eq+in-None-1, in-Some+else-eq, in_default}

pub invariant_of-self : goal.invariant_of-self
invariant_of-self g c =
    let m = g.D.Device.meaning in
    let i = c.self.inside in
    let entries = reverse i.book.now.trace in
    let l = legal-reversed m i.book.now.mounted i.book.now.trace (rw (← c.self.view_is) at c.requires.legal) in
    let next = rw (← c.self.view_is) at c.requires.next in
    let entry = rw (← c.self.view_is) at c.requires.entry in
    elim c.match-self.branch [
      | in-Some+then-eq+in-Some-1 w ↦
          let t = subst (λ x. ReplayTies m i.book.now.mounted entries i.done i.ran i.device x) w.in-Some.is c.self.invariant in
          rw (w.self-inside-is, next)
          (posted-active m i.book.now.mounted entries i.done i.ran c.args.name i.device l entry w.in-Some.attempt
          (sym w.name.ensures ∙ same-true w.name.result c.args.name (sym w.eq.ensures ∙ w.if-eq.true)) t)
      | in-Some+then-eq+in-None-1 w ↦
          let t = subst (λ x. ReplayTies m i.book.now.mounted entries i.done i.ran i.device x) w.in-Some.is c.self.invariant in
          rw (w.self-inside-is, next)
          (posted-active m i.book.now.mounted entries i.done i.ran c.args.name i.device l entry w.in-Some.attempt
          (sym w.name.ensures ∙ same-true w.name.result c.args.name (sym w.eq.ensures ∙ w.if-eq.true)) t)
      | in-Some+else-eq w ↦
          let t = subst (λ x. ReplayTies m i.book.now.mounted entries i.done i.ran i.device x) w.in-Some.is c.self.invariant in
          rw (w.self-inside-is, next, w.in-Some.is)
          (posted-other m i.book.now.mounted entries i.done i.ran c.args.name i.device l entry w.in-Some.attempt
          (λ e. no_both w.eq.result (w.eq.ensures ∙ same-is w.name.result c.args.name (w.name.ensures ∙ e)) w.if-eq.false) t)
      | in_default w ↦
          let t = subst (λ x. ReplayTies m i.book.now.mounted entries i.done i.ran i.device x) w.in_default.is c.self.invariant in
          rw (w.self-inside-is, next, w.in_default.is)
          (posted-none m i.book.now.mounted entries i.done i.ran c.args.name i.device l entry t)
    ]
