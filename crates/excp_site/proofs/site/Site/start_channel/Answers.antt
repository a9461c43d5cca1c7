use Rattle.std.proofs.Common.{◌≡◌, ◌∙◌, ℕ, refl, subst}
use Rattle.io_images.specs.declared.seek.Seek.{Seek}
use Rattle.any_device.specs.Devices.{any_device}
use Rattle.subchannel.specs.Subchannel.{after_ssch}
use Rattle.excp_site.specs.Channels.{StartsChannel, seek_to}
use Rattle.excp_site.proofs.Channels.{on-channel}
use Rattle.excp_site.proofs.site.Site.start_channel.Goals.{in-Some, in-None}
use Rattle.excp_site.proofs.site.Site.start_channel.Goals as goal

pub returns-clause-ok : goal.returns-clause-ok
returns-clause-ok c = elim c.match-index_mut.branch [
  | in-Some w ↦
      let old = w.deref_mut.result.now.subchannel in
      let After = λ (start : ℕ) (seek : Seek). w.ssch.new.self ≡ after_ssch any_device old start seek c.args.mask old.phase in
      let state = subst (λ (seek : Seek). After c.args.start seek) c.seek_to-seek.ensures
      (subst (λ (start : ℕ). After start c.seek_to-seek.result) w.new.ensures w.ssch.ensures.state) in
      rw (w.result-is, w.self-inside-is)
      (on-channel _ c.args.self.now c.self.inside.channels.items c.args.channel w.in-Some.own c.index_mut.result.now w.deref_mut.result.now
      w.ssch.new.self (StartsChannel c.args.start (seek_to c.args.cylinder c.args.head) c.args.mask w.from.result) c.self.view_is refl
      c.in_ok-own.ensures.there c.index_mut.ensures.value w.in-Some.is w.deref_mut.ensures.value (w.from.ensures ∙ w.ssch.ensures.code, state))
  | in-None w ↦ rw w.result-is tt
]
