use Rattle.std.proofs.Common.{◌≡◌, ◌+◌, ◌∷◌, ◌++◌, ◌∙◌, ℕ, [], ap, arith, map, rules, sym}
use Rattle.std.specs.List.{range_with_len}
use Rattle.excp_site.specs.Checkpoints.{count_after}
use Rattle.excp_site.proofs.Ranges.{range-push}
use Rattle.excp_site.proofs.site.Site.counts_after.Goals as goal

pub loop-task-preserved : goal.loop-task-preserved
loop-task-preserved c = λ part at.
    let f = count_after c.args.self.now c.args.unit part in
    let task = c.loop-task.task in
    let same : c.in-Ok.number ≡ task = search rules in
    let next : task ≡ 0 + task = omega arith in
    c.in_ok-push.ensures.items ∙ ap (λ xs. xs ++ c.count_after.result ∷ []) (c.loop-task.invariant part at)
    ∙ ap (λ (n : ℕ). map f (range_with_len 0 task) ++ n ∷ []) (c.count_after.ensures part at ∙ ap f (same ∙ next)) ∙ sym (range-push f 0 task)
