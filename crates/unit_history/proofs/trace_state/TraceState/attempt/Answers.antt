use Rattle.std.proofs.Common.{refl}
use Rattle.unit_history.specs.TraceStates.{before}
use Rattle.unit_history.proofs.TraceStateLaws.{starts-none}
use Rattle.unit_history.proofs.trace_state.TraceState.attempt.Goals as goal

pub returns-in-None : goal.returns-in-None
returns-in-None c =
    let k = starts-none c.args.name (before c.args.self.now) c.args.self.now.active c.requires.follows c.requires.knows.active_is
    (rw c.in-None.is at c.active_named.ensures) in
    rw k refl
