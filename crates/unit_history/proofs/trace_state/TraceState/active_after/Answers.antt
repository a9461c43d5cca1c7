use Rattle.std.proofs.Common.{◌∷◌, subst, sym}
use Rattle.unit_book.specs.declared.entry.Entry.{Entry}
use Rattle.unit_history.specs.Orderly.{IsAfter}
use Rattle.unit_history.specs.TraceStates.{ActiveIs, before}
use Rattle.unit_history.proofs.TraceStateLaws.{posted-active, quiet-active, quiet-is}
use Rattle.unit_history.proofs.trace_state.TraceState.active_after.Goals as goal

pub returns-in-Post : goal.returns-in-Post
returns-in-Post c =
    let H = before c.args.self.now in
    let w = c.in-Post in
    let f = subst (λ (e : Entry). IsAfter e H) w.is c.requires.follows in
    subst (λ (e : Entry). ActiveIs (e ∷ H) c.active_but.result) (sym w.is)
    (posted-active w.name w.field-1 w.field-2 w.field-3 H f.0 c.args.self.now.active c.active_but.result c.requires.knows.active_is
    c.active_but.ensures)

pub returns-in_default : goal.returns-in_default
returns-in_default c =
    let w = c.in_default in
    quiet-active c.args.entry.now (before c.args.self.now) c.args.self.now.active
    (quiet-is c.args.entry.now w.not-Start w.not-Halted w.not-Purge w.not-Post) c.requires.follows c.requires.knows.active_is
