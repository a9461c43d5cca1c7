use Rattle.unit_book.proofs.Controls.{settled-reset, ties-reset}
use Rattle.unit_book.proofs.Opens.{open-row}
use Rattle.unit_book.proofs.entries.Entries.reset.Goals as goal
use Rattle.unit_book.proofs.Names.{arith}
use Rattle.std.proofs.lemmas.Grind.{common_steps}

pub invariant_of-self : goal.invariant_of-self
invariant_of-self g c =
    let settled = rw (← c.self.view_is) at c.requires.settled in
    let can = rw (← c.self.view_is) at c.requires.can in
    let k = ties-reset settled can c.self.invariant.0 c.reset.ensures.dcbs c.reset.ensures.count in
    (rw c.write.ensures.items k, c.self.invariant.1)

pub returns-clause-settled : goal.returns-clause-settled
returns-clause-settled g c = grind (arith, common_steps, settled-reset)

pub reset-requires : goal.reset-requires
reset-requires g c =
    let can = rw (← c.self.view_is) at c.requires.can in
    open-row g.D.Device.meaning c.self.inside.mounted c.args.dcb c.self.invariant.0 can
