use Rattle.std.proofs.Common.{arith, ap, length, refl}
use Rattle.std.proofs.lemmas.Option.{slice_get_read}
use Rattle.unit_history.specs.TraceStates.{before, room_of_state}
use Rattle.unit_history.proofs.OrderlyLaws.{follows-at}
use Rattle.unit_history.proofs.TurnLaws.{next-event}
use Rattle.unit_history.proofs.events.EventsIterator.next.Goals as goal

pub event_kind-kind-requires-clause-follows : goal.event_kind-kind-requires-clause-follows
event_kind-kind-requires-clause-follows c =
    let p = c.self.inside.state in
    follows-at p.trace.now p.done c.index-entries-done.result
    (slice_get_read p.trace.now (length p.trace.now) p.done c.index-entries-done.result refl c.if-done-entries.false c.index-entries-done.is)
    c.self.invariant.orderly

pub go_on-requires-clause-next : goal.go_on-requires-clause-next
go_on-requires-clause-next c =
    let p = c.self.inside.state in
    slice_get_read p.trace.now (length p.trace.now) p.done c.index-entries-done.result refl c.if-done-entries.false c.index-entries-done.is

pub go_on-requires-clause-follows : goal.go_on-requires-clause-follows
go_on-requires-clause-follows c =
    let p = c.self.inside.state in
    follows-at p.trace.now p.done c.index-entries-done.result
    (slice_get_read p.trace.now (length p.trace.now) p.done c.index-entries-done.result refl c.if-done-entries.false c.index-entries-done.is)
    c.self.invariant.orderly

pub returns-clause-goes : goal.returns-clause-goes
returns-clause-goes c =
    let p = c.self.inside.state in
    let e = next-event (room_of_state p) (before p) p.trace.now p.done c.index-entries-done.result c.event_kind-kind.result
    c.if-done-entries.false
    c.index-entries-done.is c.event_kind-kind.ensures in
    let t = ap length c.go_on.ensures.trace in
    rw (← c.self.view_is) (record { on = λ h. (tt, tt, omega (arith, e.few, e.some, c.go_on.ensures.done, t)); keeps = tt; rests = λ h. tt })
