use Rattle.std.proofs.Common.{arith, drop, length-drop, refl}
use Rattle.unit_history.proofs.TraceStateLaws.{knows-turns}
use Rattle.unit_history.proofs.TurnLaws.{turns-few}
use Rattle.unit_history.proofs.trace_state.TraceState.pass.Goals as goal

pub overflow_add-self : goal.overflow_add-self
overflow_add-self c =
    let es = c.args.self.now.trace.now in
    let few = turns-few c.args.name (drop c.args.self.now.done es) in
    omega (arith, few, length-drop c.args.self.now.done es, c.requires.turns, c.requires.knows.few)

pub returns-clause-knows : goal.returns-clause-knows
returns-clause-knows c = knows-turns c.args.self.now _ c.args.name c.args.count c.requires.knows c.requires.turns refl refl refl refl refl
