use Rattle.std.proofs.Common.{arith}
use Rattle.system_threads.proofs.Counting.{few_requests}
use Rattle.system_threads.proofs.client.Client.excp.Goals as goal

pub overflow_add-self : goal.overflow_add-self
overflow_add-self g c =
    let h = c.holds.ensures in
    omega (arith, few_requests c.self.inside.task g.S.Site.rows.units h.count h.few_units h.few, c.self.invariant.issued_is)
