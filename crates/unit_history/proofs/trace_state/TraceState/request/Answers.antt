use Rattle.std.proofs.Common.{subst}
use Rattle.unit_history.specs.TraceStates.{IfNamed, before}
use Rattle.unit_history.proofs.TraceStateLaws.{issued-again}
use Rattle.unit_history.proofs.trace_state.TraceState.request.Goals as goal

pub returns-in-Some : goal.returns-in-Some
returns-in-Some c =
    let o = c.args.self.now.active in
    issued-again c.args.name (before c.args.self.now) o c.in-Some.active c.requires.knows.active_is
    (subst (IfNamed c.args.name o) c.in-Some.is c.active_named.ensures)
