use Rattle.unit_book.proofs.Names.{length-append, arith, refl}
use Rattle.unit_book.proofs.Arrivals.{ties-refused, after-refusal, since-refused, settled-refused}
use Rattle.unit_book.proofs.entries.Entries.refuse.Goals as goal
use Rattle.std.proofs.lemmas.Grind.{common_steps}

pub invariant_of-self : goal.invariant_of-self
invariant_of-self g c =
    let fits = rw (← c.self.view_is) at c.requires.fits in
    let settled = rw (← c.self.view_is) at c.requires.settled in
    let refused = rw (← c.self.view_is) at c.requires.refused in
    let t = c.self.invariant.0 in
    let k = ties-refused fits c.requires.placed settled refused t in
    grind (arith, common_steps, length-append)

pub returns : goal.returns
returns g c =
    let fits = rw (← c.self.view_is) at c.requires.fits in
    let settled = rw (← c.self.view_is) at c.requires.settled in
    let refused = rw (← c.self.view_is) at c.requires.refused in
    let t = c.self.invariant.0 in
    let after = after-refusal fits c.requires.placed settled refused t in
    let since = since-refused fits c.requires.placed settled refused t in
    let k = settled-refused fits c.requires.placed settled refused t in
    let w = c.write.ensures.items in
    let p = c.post_purged.ensures.trace in
    let same = c.requires.same in
    record {
      book = rw (← c.self.view_is) (rw (p, w, c.post_purged.ensures.out, same, ← after, since) refl);
      settled = rw (p, w, same) k;
      spare = rw (← c.self.view_is) (rw (p, w) (omega (arith, c.write.ensures.spare, c.post_purged.ensures.spare)));
    }
