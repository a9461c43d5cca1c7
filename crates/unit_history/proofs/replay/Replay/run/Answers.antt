use Rattle.std.proofs.Common.{reverse, subst}
use Rattle.unit_history.specs.Ties.{ReplayTies}
use Rattle.unit_history.proofs.Runs.{left-here, nothing-runs, ran-last, ran-more, runs-here}
use Rattle.unit_history.proofs.Steps.{legal-reversed}
use Rattle.unit_history.proofs.replay.Replay.run.Goals as goal

pub unreachable-requires : goal.unreachable-requires
unreachable-requires g c =
    let m = g.D.Device.meaning in
    let i = c.self.inside in
    let l = legal-reversed m i.book.now.mounted i.book.now.trace (rw (← c.self.view_is) at c.requires.legal) in
    let t = subst (λ x. ReplayTies m i.book.now.mounted (reverse i.book.now.trace) i.done i.ran i.device x) c.in_default.is
    c.self.invariant in
    nothing-runs m i.book.now.mounted (reverse i.book.now.trace) i.done i.ran c.args.commands i.device l
    (rw (← c.self.view_is) at c.requires.entry) t

pub run-requires-clause-running : goal.run-requires-clause-running
run-requires-clause-running g c =
    let m = g.D.Device.meaning in
    let i = c.self.inside in
    let l = legal-reversed m i.book.now.mounted i.book.now.trace (rw (← c.self.view_is) at c.requires.legal) in
    let t = subst (λ x. ReplayTies m i.book.now.mounted (reverse i.book.now.trace) i.done i.ran i.device x) c.in-Some.is c.self.invariant in
    runs-here m i.book.now.mounted (reverse i.book.now.trace) i.done i.ran c.args.commands i.device l
    (rw (← c.self.view_is) at c.requires.entry) c.in-Some.attempt t

pub run-requires-clause-left : goal.run-requires-clause-left
run-requires-clause-left g c =
    let m = g.D.Device.meaning in
    let i = c.self.inside in
    let l = legal-reversed m i.book.now.mounted i.book.now.trace (rw (← c.self.view_is) at c.requires.legal) in
    let t = subst (λ x. ReplayTies m i.book.now.mounted (reverse i.book.now.trace) i.done i.ran i.device x) c.in-Some.is c.self.invariant in
    left-here m i.book.now.mounted (reverse i.book.now.trace) i.done i.ran c.args.commands i.device l
    (rw (← c.self.view_is) at c.requires.entry) c.in-Some.attempt t

pub invariant_of-self : goal.invariant_of-self
invariant_of-self g c =
    let m = g.D.Device.meaning in
    let i = c.self.inside in
    let l = legal-reversed m i.book.now.mounted i.book.now.trace (rw (← c.self.view_is) at c.requires.legal) in
    let t = subst (λ x. ReplayTies m i.book.now.mounted (reverse i.book.now.trace) i.done i.ran i.device x) c.in-Some.is c.self.invariant in
    let e = rw (← c.self.view_is) at c.requires.next in
    rw e (ran-last m i.book.now.mounted (reverse i.book.now.trace) i.done i.ran c.args.commands i.device l
    (rw (← c.self.view_is) at c.requires.entry) c.in-Some.attempt t
    c.run.new.device c.run.new.self c.run.ensures.issued c.run.ensures.step c.if-self-commands.true)

pub invariant_of-self-else-self-commands : goal.invariant_of-self-else-self-commands
invariant_of-self-else-self-commands g c =
    let m = g.D.Device.meaning in
    let i = c.self.inside in
    let l = legal-reversed m i.book.now.mounted i.book.now.trace (rw (← c.self.view_is) at c.requires.legal) in
    let t = subst (λ x. ReplayTies m i.book.now.mounted (reverse i.book.now.trace) i.done i.ran i.device x) c.in-Some.is c.self.invariant in
    ran-more m i.book.now.mounted (reverse i.book.now.trace) i.done i.ran c.args.commands i.device l
    (rw (← c.self.view_is) at c.requires.entry) c.in-Some.attempt t
    c.run.new.device c.run.new.self c.run.ensures.issued c.run.ensures.step c.if-self-commands.false
