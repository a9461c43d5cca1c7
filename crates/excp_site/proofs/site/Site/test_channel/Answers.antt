use Rattle.std.proofs.Common.{refl}
use Rattle.excp_site.specs.Channels.{TestsChannel}
use Rattle.excp_site.proofs.Channels.{on-channel}
use Rattle.excp_site.proofs.site.Site.test_channel.Goals.{in-Some, in-None}
use Rattle.excp_site.proofs.site.Site.test_channel.Goals as goal

pub returns-clause-ok : goal.returns-clause-ok
returns-clause-ok c = elim c.match-index_mut.branch [
  | in-Some w ↦
      rw (w.result-is, w.self-inside-is)
      (on-channel _ c.args.self.now c.self.inside.channels.items c.args.channel w.in-Some.own c.index_mut.result.now w.deref_mut.result.now
      w.tested.new.channel (TestsChannel w.tested.result) c.self.view_is refl c.in_ok-channel.ensures.there c.index_mut.ensures.value
      w.in-Some.is w.deref_mut.ensures.value w.tested.ensures)
  | in-None w ↦ rw w.result-is tt
]
