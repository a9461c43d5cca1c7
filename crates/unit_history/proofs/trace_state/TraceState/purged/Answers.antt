use Rattle.std.proofs.Common.{◌≡◌, ◌+◌, length, ap, Some, None, ◌∷◌, ◌∙◌, subst, sym}
use Rattle.unit_book.specs.declared.entry.Entry.TheVariants.{Purge}
use Rattle.unit_history.specs.declared.trace_state.StartedRequest.{StartedRequest}
use Rattle.unit_history.specs.TraceStates.{ActiveIs, IsActive, before}
use Rattle.unit_history.proofs.TraceStateLaws.{before-length, purged-active}
use Rattle.unit_history.proofs.trace_state.TraceState.purged.Goals as goal

pub returns-in-Some : goal.returns-in-Some
returns-in-Some c =
    let H = before c.args.self.now in
    let n : c.args.number ≡ length H + 1 = c.requires.number
    ∙ ap (λ x. x + 1) (sym (before-length c.args.self.now.trace.now c.args.self.now.done c.requires.knows.few)) in
    let k = subst (ActiveIs H) c.in-Some.is c.requires.knows.active_is in
    subst (λ (x : StartedRequest). IsActive (Purge c.args.scope c.args.mode ∷ H) x) (sym c.purged_by.ensures)
    (purged-active c.args.scope c.args.mode c.args.number H (Some c.in-Some.active) n k)

pub returns-in-None : goal.returns-in-None
returns-in-None c =
    let H = before c.args.self.now in
    let n : c.args.number ≡ length H + 1 = c.requires.number
    ∙ ap (λ x. x + 1) (sym (before-length c.args.self.now.trace.now c.args.self.now.done c.requires.knows.few)) in
    purged-active c.args.scope c.args.mode c.args.number H None n (subst (ActiveIs H) c.in-None.is c.requires.knows.active_is)
