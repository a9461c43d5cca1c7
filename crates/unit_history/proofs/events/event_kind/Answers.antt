use Rattle.std.proofs.Common.{◌∷◌, subst}
use Rattle.unit_book.specs.Trace.{active}
use Rattle.unit_book.specs.declared.entry.Entry.{Entry}
use Rattle.unit_book.specs.declared.entry.Entry.TheVariants.{Post}
use Rattle.unit_history.specs.Orderly.{IsAfter}
use Rattle.unit_history.specs.TraceStates.{before}
use Rattle.unit_history.proofs.events.event_kind.Goals as goal

pub cause-requires-clause-follows : goal.cause-requires-clause-follows
cause-requires-clause-follows c =
    let H = before c.args.state.now in
    let w = c.in-Post in
    record {
      after = active (Post w.name w.csw w.sense w.code ∷ H);
      follows = (subst (λ (e : Entry). IsAfter e H) w.is c.requires.follows).0;
    }

pub sets_flag-requires-clause-error : goal.sets_flag-requires-clause-error
sets_flag-requires-clause-error c =
    let w = c.in-Post in
    (subst (λ (e : Entry). IsAfter e (before c.args.state.now)) w.is c.requires.follows).1
