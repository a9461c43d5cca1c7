use Rattle.unit_book.proofs.Names.{arith, length-append, append-nil}
use Rattle.unit_book.proofs.Arrivals.{ties-arrive, settled-arrive}
use Rattle.unit_book.proofs.Dooms.{dooms-none, since-arrive}
use Rattle.unit_book.proofs.Same.{room-of}
use Rattle.unit_book.proofs.entries.Entries.arrive.Goals as goal
use Rattle.std.proofs.lemmas.Grind.{common_steps}

pub push-requires : goal.push-requires
push-requires g c = grind (arith, common_steps, room-of)

pub invariant_of-self : goal.invariant_of-self
invariant_of-self g c =
    let i = c.self.inside in
    let fits = rw (← c.self.view_is) at c.requires.fits in
    let t = ties-arrive g.D.Device.meaning i.mounted fits c.requires.placed c.self.invariant.0 in
    grind (arith, common_steps, length-append)

pub returns : goal.returns
returns g c = grind (arith, common_steps, settled-arrive, dooms-none, since-arrive, append-nil)
