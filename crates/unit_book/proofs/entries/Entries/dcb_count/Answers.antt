use Rattle.unit_book.proofs.Names.{reverse, arith}
use Rattle.unit_book.proofs.Opens.{opened-most}
use Rattle.unit_book.proofs.entries.Entries.dcb_count.Goals as goal

pub returns-clause-few : goal.returns-clause-few
returns-clause-few g c =
    let i = c.self.inside in
    let t = c.self.invariant.0 in
    let few = opened-most g.D.Device.meaning i.mounted (reverse i.trace.items) t.legal in
    omega (arith, c.len.ensures, t.count, few)
