use Rattle.unit_book.proofs.Names.{◌∷◌, reverse, Close, waiting, arrivals, arith}
use Rattle.unit_book.proofs.Controls.{doomed-close, doomed-some, ties-close}
use Rattle.unit_book.proofs.Dooms.{due-doomed, due-no_halt}
use Rattle.unit_book.proofs.Opens.{open-row}
use Rattle.unit_book.proofs.entries.Entries.close.Goals as goal
use Rattle.std.proofs.lemmas.Grind.{common_steps}

pub invariant_of-self : goal.invariant_of-self
invariant_of-self g c =
    let settled = rw (← c.self.view_is) at c.requires.settled in
    let can = rw (← c.self.view_is) at c.requires.can in
    let k = ties-close settled can c.self.invariant.0 c.close.ensures.dcbs c.close.ensures.count in
    (rw c.write.ensures.items k, c.self.invariant.1)

pub returns-clause-due : goal.returns-clause-due
returns-clause-due g c = grind (arith, common_steps, due-no_halt)

pub returns-clause-dooms : goal.returns-clause-dooms
returns-clause-dooms g c = grind (arith, common_steps, doomed-close, due-doomed)

pub returns-clause-few : goal.returns-clause-few
unfolding waiting arrivals
returns-clause-few g c = rw (← c.self.view_is, c.write.ensures.items) (doomed-some (Close c.args.dcb ∷ reverse c.self.inside.trace.items))

pub close-requires : goal.close-requires
close-requires g c =
    let can = rw (← c.self.view_is) at c.requires.can in
    open-row g.D.Device.meaning c.self.inside.mounted c.args.dcb c.self.invariant.0 can
