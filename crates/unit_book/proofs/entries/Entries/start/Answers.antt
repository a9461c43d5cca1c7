use Rattle.unit_book.proofs.Names.{◌≡◌, true, Some, reverse, arith, ap, Piece, MayAgain}
use Rattle.unit_book.specs.Refusals.{ForStart}
use Rattle.unit_book.specs.Fields.{awaits_of, fields_of}
use Rattle.std.proofs.Common.{rules}
use Rattle.unit_book.proofs.Restarts.{FoundAgain, may-restart, restart-fits, ties-restart}
use Rattle.unit_book.proofs.Same.{ties-found}
use Rattle.unit_book.proofs.entries.Entries.start.Given.{Over}
use Rattle.unit_book.proofs.entries.Entries.start.Goals.{After-awaits}
use Rattle.unit_book.proofs.entries.Entries.start.Goals as goal
use Rattle.std.proofs.lemmas.Grind.{common_steps}

-- what was found: the active request awaits its restart
found : (g : Over) (c : After-awaits g) → let i = c.self.inside in let a = c.in-Some.active in c.awaits.result ≡ true →
    (i.active ≡ Some a) × FoundAgain g.D.Device.meaning i.mounted
    (fields_of (reverse i.trace.items) i.channel i.waiting.pieces i.dcbs i.out.items) a
    × (awaits_of i.active ≡ true)
found g c again = grind (arith, common_steps, ties-found)

pub returns-in-Err-clause-full : goal.returns-in-Err-clause-full
returns-in-Err-clause-full g c =
    let f = found g (goal.at.returns-in-Err-clause-full g c).After-awaits c.if-not-awaits.false in
    rw (← c.self.view_is) (ForStart c.in-Some.active.piece.value.name
    (MayAgain f.2 (may-restart g.D.Device.meaning c.self.inside.mounted f.1)) (omega (arith, c.in-Err.ensures.full)))

pub launch-requires : goal.launch-requires
launch-requires g c =
    let f = found g (goal.at.launch-requires g c).After-awaits c.if-not-awaits.false in
    rw c.deref-request.ensures (restart-fits g.D.Device.meaning c.self.inside.mounted f.1 g.met.D.Device.lawful)

pub invariant_of-self-2 : goal.invariant_of-self-2
invariant_of-self-2 g c =
    let m = g.D.Device.meaning in
    let i = c.self.inside in
    let f = found g (goal.at.invariant_of-self-2 g c).After-awaits c.if-not-awaits.false in
    let dcb_is = ap (λ (x : Piece). x.dcb) c.deref-request.ensures in
    let k = ties-restart m i.mounted f.1 (rw dcb_is at c.mask-mask.ensures) in
    grind (arith, common_steps)

pub returns-clause-ok : goal.returns-clause-ok
returns-clause-ok g c =
    let f = found g (goal.at.returns-clause-ok g c).After-awaits c.if-not-awaits.false in
    rw (← c.self.view_is, c.name-name.ensures) (MayAgain f.2 (may-restart g.D.Device.meaning c.self.inside.mounted f.1), search rules)
