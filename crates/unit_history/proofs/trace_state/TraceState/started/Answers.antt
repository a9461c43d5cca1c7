use Rattle.std.proofs.Common.{refl}
use Rattle.unit_history.specs.TraceStates.{before}
use Rattle.unit_history.proofs.TraceStateLaws.{started-is}
use Rattle.unit_history.proofs.trace_state.TraceState.started.Goals as goal

pub returns : goal.returns
returns c =
    started-is c.args.name (before c.args.self.now) _ c.requires.follows refl c.request-place.ensures c.attempt-starts.ensures refl refl
