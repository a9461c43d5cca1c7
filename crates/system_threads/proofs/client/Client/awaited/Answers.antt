use Rattle.std.proofs.Common.{◌∙◌, ap}
use Rattle.excp_system.specs.States.{awaited_count}
use Rattle.system_threads.proofs.Counting.{awaits, few_requests}
use Rattle.system_threads.proofs.client.Client.awaited.Goals as goal

pub returns : goal.returns
returns g c =
    let h = c.holds.ensures in
    let task = c.self.inside.task in
    c.saturating_sub.ensures ∙ awaits task c.self.inside.issued c.self.inside.collected c.self.invariant
    (few_requests task g.S.Site.rows.units h.count h.few_units h.few) ∙ ap awaited_count c.self.view_is
