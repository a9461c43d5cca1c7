use Rattle.unit_book.proofs.Names.{reverse, ap, subst}
use Rattle.unit_book.specs.Fields.{ActivityTies, awaits_of}
use Rattle.unit_book.proofs.Activities.{activity-told}
use Rattle.unit_book.proofs.book.UnitBook.activity.Goals as goal

pub returns-in-Some : goal.returns-in-Some
returns-in-Some g c =
    let held = c.self-inside.inside.0.0 in
    let phase = held.channel.phase in
    let ties = subst (ActivityTies g.D.Device.meaning held.mounted (reverse held.trace.items) phase) c.in-Some.is
    c.self-inside.invariant.0.activity in
    rw (← c.self.view_is, ← c.self-inside.view_is, c.deref.ensures, c.phase_of.ensures)
    (activity-told g.D.Device.meaning _ c.in-Some.active phase (ap awaits_of c.in-Some.is) ties)
