use Rattle.std.proofs.Common.{◌≡◌, ◌∙◌, false, subst, sym, true}
use Rattle.io_area.specs.Storage.{SamePlace, Storage}
use Rattle.excp_site.specs.Channels.{OnChannel, RunsChannel, storage_at}
use Rattle.excp_site.proofs.Back.{copied-back, lies-back}
use Rattle.excp_site.proofs.site.Site.run_channel.Goals.{in-Some, in_default}
use Rattle.excp_site.proofs.site.Site.run_channel.Goals as goal

pub returns-clause-ok : goal.returns-clause-ok
returns-clause-ok c =
    let s = c.args.self.now in
    let before = c.args.storage.now in
    let n = c.run_on.new.area in
    let run = c.in_ok-run.run' in
    let Runs = λ (m k : Storage). OnChannel s c.args.channel (RunsChannel c.args.max run m k) c.run_on.new.self in
    let same = subst (λ (m : Storage). SamePlace m n) c.in_ok-area.ensures.area c.in_ok-run.ensures.place in
    let ran = subst (λ (m : Storage). Runs m n) c.in_ok-area.ensures.area c.in_ok-run.ensures.ok in
    elim c.match-get.branch [
      | in-Some w ↦
          subst (λ (k : Storage). Runs (storage_at c.args.base before) k)
          (copied-back c.args.base before c.match-get.storage n same (w.storage-is ∙ w.copy_from_slice.ensures.after ∙ w.in-Some.ensures.answer.1)) ran
      | in_default w ↦ let e : true ≡ false = sym (lies-back c.args.base before n same) ∙ w.in_default.ensures.answer in absurd cc
    ]
