use Rattle.unit_book.proofs.Names.{arith, reverse, posted}
use Rattle.unit_book.proofs.Posting.{given-some, ties-taken, length-rest}
use Rattle.unit_book.proofs.entries.Entries.take_out.Goals as goal
use Rattle.std.proofs.lemmas.Grind.{common_steps}

pub invariant_of-self : goal.invariant_of-self
invariant_of-self g c =
    let i = c.self.inside in
    let t = ties-taken g.D.Device.meaning i.mounted c.self.invariant.0 in
    grind (arith, common_steps, length-rest)

pub returns-clause-given : goal.returns-clause-given
returns-clause-given g c =
    let i = c.self.inside in
    let o = c.self.invariant.0.out in
    rw (← c.self.view_is, c.pop_front.ensures.items)
    (given-some o.0 i.out.items
    (posted g.D.Device.meaning i.mounted (reverse i.trace.items)) c.pop_front.result o.1 c.pop_front.ensures.value)
