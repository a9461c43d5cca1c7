use Rattle.std.proofs.Common.{refl}
use Rattle.excp_site.specs.Channels.{RunsChannel}
use Rattle.excp_site.proofs.Channels.{on-channel}
use Rattle.excp_site.proofs.site.Site.run_on.Goals.{in-Some, in-None}
use Rattle.excp_site.proofs.site.Site.run_on.Goals as goal

pub returns-clause-ok : goal.returns-clause-ok
returns-clause-ok c = elim c.match-index_mut.branch [
  | in-Some w ↦
      rw (w.result-is, w.self-inside-is, w.area-is)
      (on-channel _ c.args.self.now c.self.inside.channels.items c.args.channel w.in-Some.own c.index_mut.result.now w.deref_mut.result.now
      w.run_of.new.channel (RunsChannel c.args.max w.run_of.result c.args.area.now w.run_of.new.area) c.self.view_is refl
      c.requires.there c.index_mut.ensures.value w.in-Some.is w.deref_mut.ensures.value w.run_of.ensures.runs)
  | in-None w ↦ rw w.result-is tt
]
