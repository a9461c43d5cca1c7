use Rattle.std.proofs.Common.{◌≡◌, reverse, subst, sym, ap, ◌∙◌, take}
use Rattle.std.proofs.lemmas.List.{reverse-reverse}
use Rattle.unit_history.specs.Ties.{ArrivesAt, ReplayTies}
use Rattle.unit_history.proofs.Begun.{begins-again, begins-first, begun, begun-seeks, start-arrived}
use Rattle.unit_history.proofs.Steps.{legal-reversed}
use Rattle.unit_history.proofs.replay.Replay.start.Goals as goal
use Rattle.unit_history.proofs.replay.Replay.start.Goals.{in-Some, in-None+in_ok-attempt-in-None}

pub arrival_of-place-requires : goal.arrival_of-place-requires
arrival_of-place-requires g c =
    let m = g.D.Device.meaning in
    let i = c.self.inside in
    let l = legal-reversed m i.book.now.mounted i.book.now.trace (rw (← c.self.view_is) at c.requires.legal) in
    let here = rw (← c.self.view_is) at c.requires.entry in
    let t = subst (λ x. ReplayTies m i.book.now.mounted (reverse i.book.now.trace) i.done i.ran i.device x)
    (sym c.take.ensures.value ∙ c.in-None.is) c.self.invariant in
    let e : c.trace.result.now ≡ reverse i.book.now.trace = sym (reverse-reverse c.trace.result.now) ∙ ap reverse c.trace.ensures in
    rw e (start-arrived m i.book.now.mounted (reverse i.book.now.trace) i.done i.ran c.args.name i.device l here t)

pub prefix-requires : goal.prefix-requires
prefix-requires g c =
    let m = g.D.Device.meaning in
    let i = c.self.inside in
    let l = legal-reversed m i.book.now.mounted i.book.now.trace (rw (← c.self.view_is) at c.requires.legal) in
    let here = rw (← c.self.view_is) at c.requires.entry in
    elim c.match-take.branch [
      | in-Some w ↦
          let t = subst (λ x. ReplayTies m i.book.now.mounted (reverse i.book.now.trace) i.done i.ran i.device x)
          (sym c.take.ensures.value ∙ w.in-Some.is) c.self.invariant in
          let b = begins-again m i.book.now.mounted (reverse i.book.now.trace) i.done i.ran c.args.name i.device l here _
          c.match-take.attempt t (w.attempt-is ∙ w.again-attempt.ensures) in
          rw (c.seek.ensures, w.self-inside-is)
          (begun-seeks m i.book.now.mounted (reverse i.book.now.trace) i.done i.ran c.args.name i.device l here g.met.D.Device.lawful t
          c.match-take.attempt b)
      | in-None+in_ok-attempt-in-None w ↦
          let t = subst (λ x. ReplayTies m i.book.now.mounted (reverse i.book.now.trace) i.done i.ran i.device x)
          (sym c.take.ensures.value ∙ w.in-None.is) c.self.invariant in
          let e : w.trace.result.now ≡ reverse i.book.now.trace = sym (reverse-reverse w.trace.result.now) ∙ ap reverse w.trace.ensures in
          let a = w.arrival_of-place.ensures in
          let k = w.in_ok-attempt-in-None.ensures in
          let at = subst (λ x. ArrivesAt (take i.done x) c.args.name w.arrival_of-place.result.0 w.arrival_of-place.result.1.now) e a in
          let b = begins-first m i.book.now.mounted (reverse i.book.now.trace) i.done i.ran c.args.name i.device l here
          c.match-take.attempt w.arrival_of-place.result.0 t
          (rw (w.attempt-is, k.issued) at) (rw (w.attempt-is, k.issued) k.area) (rw (w.attempt-is, k.issued) k.context) in
          rw (c.seek.ensures, w.self-inside-is)
          (begun-seeks m i.book.now.mounted (reverse i.book.now.trace) i.done i.ran c.args.name i.device l here g.met.D.Device.lawful t
          c.match-take.attempt b)
    ]

pub invariant_of-self-2 : goal.invariant_of-self-2
invariant_of-self-2 g c =
    let m = g.D.Device.meaning in
    let i = c.self.inside in
    let l = legal-reversed m i.book.now.mounted i.book.now.trace (rw (← c.self.view_is) at c.requires.legal) in
    let here = rw (← c.self.view_is) at c.requires.entry in
    let next = rw (← c.self.view_is) at c.requires.next in
    let twice = reverse-reverse i.book.now.trace in
    elim c.match-take.branch [
      | in-Some w ↦
          let t = subst (λ x. ReplayTies m i.book.now.mounted (reverse i.book.now.trace) i.done i.ran i.device x)
          (sym c.take.ensures.value ∙ w.in-Some.is) c.self.invariant in
          let b = begins-again m i.book.now.mounted (reverse i.book.now.trace) i.done i.ran c.args.name i.device l here _
          c.match-take.attempt t (w.attempt-is ∙ w.again-attempt.ensures) in
          rw (w.self-inside-is, next)
          (begun m i.book.now.mounted (reverse i.book.now.trace) i.done i.ran c.args.name i.device l here t c.match-take.attempt b
          c.mask-mask.result (rw (twice, ← c.dcb.ensures) (rw w.self-inside-is at c.mask-mask.ensures)) c.prefix.new.self
          (rw (← c.seek.ensures) (rw w.self-inside-is at c.prefix.ensures)))
      | in-None+in_ok-attempt-in-None w ↦
          let t = subst (λ x. ReplayTies m i.book.now.mounted (reverse i.book.now.trace) i.done i.ran i.device x)
          (sym c.take.ensures.value ∙ w.in-None.is) c.self.invariant in
          let e : w.trace.result.now ≡ reverse i.book.now.trace = sym (reverse-reverse w.trace.result.now) ∙ ap reverse w.trace.ensures in
          let a = w.arrival_of-place.ensures in
          let k = w.in_ok-attempt-in-None.ensures in
          let at = subst (λ x. ArrivesAt (take i.done x) c.args.name w.arrival_of-place.result.0 w.arrival_of-place.result.1.now) e a in
          let b = begins-first m i.book.now.mounted (reverse i.book.now.trace) i.done i.ran c.args.name i.device l here
          c.match-take.attempt w.arrival_of-place.result.0 t
          (rw (w.attempt-is, k.issued) at) (rw (w.attempt-is, k.issued) k.area) (rw (w.attempt-is, k.issued) k.context) in
          rw (w.self-inside-is, next)
          (begun m i.book.now.mounted (reverse i.book.now.trace) i.done i.ran c.args.name i.device l here t c.match-take.attempt b
          c.mask-mask.result (rw (twice, ← c.dcb.ensures) (rw w.self-inside-is at c.mask-mask.ensures)) c.prefix.new.self
          (rw (← c.seek.ensures) (rw w.self-inside-is at c.prefix.ensures)))
    ]
