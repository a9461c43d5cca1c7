use Rattle.unit_book.proofs.Names.{reverse, refl, ap}
use Rattle.unit_book.proofs.Copies.{same-awaits, same-rooms, same-ties}
use Rattle.unit_book.proofs.entries.Entries.copy.Goals as goal

pub invariant_of-result : goal.invariant_of-result
invariant_of-result g c =
    let held = c.self.inside in
    let active_is = c.in_ok-active.ensures in
    let trace_is = ap reverse c.in_ok-trace.ensures in
    let ties = same-ties g.D.Device.meaning held.mounted _ held.active c.in_ok-active.active active_is c.self.invariant.0 in
    let rooms = same-rooms held.active c.in_ok-active.active held.waiting held.swept held.out active_is c.self.invariant.1 in (
      rw (c.in_ok-mounted.ensures, c.in_ok-channel.ensures, c.in_ok-waiting.ensures, c.in_ok-dcbs.ensures, trace_is, c.in_ok-out.ensures) ties,
      rw (c.in_ok-waiting.ensures, c.in_ok-swept.ensures, c.in_ok-out.ensures) rooms,
    )

pub returns : goal.returns
returns g c =
    let awaits_is = same-awaits c.self.inside.active c.in_ok-active.active c.in_ok-active.ensures in
    let trace_is = ap reverse c.in_ok-trace.ensures in
    rw (← c.self.view_is, c.in_ok-mounted.ensures, c.in_ok-channel.ensures, trace_is, awaits_is, c.in_ok-out.ensures) refl
