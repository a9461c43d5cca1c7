use Rattle.std.proofs.Common.{subst, sym}
use Rattle.unit_history.specs.declared.event.PostCause.{PostCause}
use Rattle.unit_history.specs.Causes.{IsCauseOfPost}
use Rattle.unit_history.specs.TraceStates.{IfNamed, before, room_of_state}
use Rattle.unit_history.proofs.TraceStateLaws.{cause-active, cause-waiting}
use Rattle.unit_history.proofs.trace_state.TraceState.cause.Goals as goal

pub returns-in-Some : goal.returns-in-Some
returns-in-Some c =
    let H = before c.args.self.now in
    let o = c.args.self.now.active in
    let f = subst (IfNamed c.args.name o) c.in-Some.is c.active_named.ensures in
    subst (λ (x : PostCause). IsCauseOfPost (room_of_state c.args.self.now) H c.args.name c.args.code x) (sym c.cause.ensures)
    (cause-active (room_of_state c.args.self.now) H c.args.name c.args.code o c.in-Some.active c.requires.knows.active_is f c.requires.follows)

pub returns-in-None : goal.returns-in-None
returns-in-None c =
    let H = before c.args.self.now in
    let o = c.args.self.now.active in
    let f = subst (IfNamed c.args.name o) c.in-None.is c.active_named.ensures in
    subst (λ (x : PostCause). IsCauseOfPost (room_of_state c.args.self.now) H c.args.name c.args.code x) (sym c.waiting_cause.ensures)
    (cause-waiting (room_of_state c.args.self.now) H c.args.name c.args.code o c.args.self.now.cause c.requires.knows.active_is f c.requires.knows.doom c.requires.knows.dooms
    c.requires.follows)
