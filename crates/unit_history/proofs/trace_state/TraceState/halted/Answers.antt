use Rattle.std.proofs.Common.{Some, None, ◌∷◌, subst, sym}
use Rattle.unit_book.specs.declared.entry.Entry.TheVariants.{Halted}
use Rattle.unit_history.specs.declared.trace_state.StartedRequest.{StartedRequest}
use Rattle.unit_history.specs.TraceStates.{ActiveIs, IsActive, before}
use Rattle.unit_history.proofs.TraceStateLaws.{halted-active}
use Rattle.unit_history.proofs.trace_state.TraceState.halted.Goals as goal

pub returns-in-Some : goal.returns-in-Some
returns-in-Some c =
    let H = before c.args.self.now in
    let k = subst (ActiveIs H) c.in-Some.is c.requires.knows.active_is in
    subst (λ (x : StartedRequest). IsActive (Halted c.args.name ∷ H) x) (sym c.halted_by.ensures)
    (halted-active c.args.name H (Some c.in-Some.active) k)

pub returns-in-None : goal.returns-in-None
returns-in-None c =
    let H = before c.args.self.now in
    halted-active c.args.name H None (subst (ActiveIs H) c.in-None.is c.requires.knows.active_is)
