use Rattle.std.proofs.Common.{◌≡◌, ◌∙◌, ℕ, List, ap, subst, take}
use Rattle.aws_tape.specs.declared.layout.Part.{Part}
use Rattle.aws_tape.specs.Layout.{count_before}
use Rattle.aws_tape.specs.Writing.{common, common_parts, saved}
use Rattle.aws_tape.proofs.Forgotten.{saved_forgotten}
use Rattle.aws_tape.proofs.layout.Layout.forget_written.Goals as goal

pub returns-clause-image : goal.returns-clause-image
returns-clause-image c =
    let layout = c.self.inside.parts.items in
    let mounted = c.args.mounted.now.reel.items in
    let now = c.args.now.now.reel.items in
    let count : c.count_before-count.result ≡ count_before (common mounted now) layout = c.count_before-count.ensures
    ∙ ap (count_before c.common.result) c.deref.ensures.value ∙ ap (λ (n : ℕ). count_before n layout) c.common.ensures in
    let parts : c.truncate.new.self.items ≡ common_parts layout mounted now = c.truncate.ensures.items ∙ ap (λ (n : ℕ). take n layout) count in
    let same = ap (λ (ps : List Part). saved ps now now) parts ∙ saved_forgotten layout mounted now in
    subst (λ (ps : List Part). saved c.truncate.new.self.items now now ≡ saved ps mounted now) c.self.view_is same
