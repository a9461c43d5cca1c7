use Rattle.std.proofs.Common.{◌≡◌, ◌++◌, List, ℕ, Option, Some, None, refl, sym, ap, ◌∙◌}
use Rattle.std.specs.Prelude.{option_copied}
use Rattle.job_media.specs.Sizes.{sized_line}
use Rattle.job_media.proofs.Lines.{first_line, left_with, next_line, no_line}
use Rattle.job_media.proofs.sizes.with_sizes.Goals as goal

pub loop-left-init : goal.loop-left-init
loop-left-init c =
    rw (c.in_ok-push_line.ensures, c.new-whole.ensures.items)
    (first_line c.args.sizes.now c.args.text.now c.scan-left.new.self.line.now (option_copied c.scan-left.result) c.scan-left.ensures.line)

pub loop-left-preserved : goal.loop-left-preserved
loop-left-preserved c =
    let is : option_copied c.loop-left.left ≡ Some c.in-Some.text.now = rw c.in-Some.is refl in
    let left = option_copied c.scan-left-in-Some.result in
    next_line c.args.sizes.now c.loop-left.whole.items _ c.in-Some.text.now c.scan-left-in-Some.new.self.line.now left
    c.scan-left-in-Some.ensures.line (c.in_ok-push_line-2.ensures ∙ ap (λ (l : List ℕ). l ++ sized_line c.args.sizes.now c.scan-left-in-Some.new.self.line.now) c.in_ok-push.ensures.items)
    ∙ ap (λ (l : Option (List ℕ)). c.loop-left.whole.items ++ left_with c.args.sizes.now l) (sym is)
    ∙ c.loop-left.invariant

pub returns : goal.returns
returns c =
    let is : option_copied c.loop-left.left ≡ None = rw c.in_default.is refl in
    sym (no_line c.args.sizes.now c.loop-left.whole.items)
    ∙ ap (λ (l : Option (List ℕ)). c.loop-left.whole.items ++ left_with c.args.sizes.now l) (sym is)
    ∙ c.loop-left.invariant
