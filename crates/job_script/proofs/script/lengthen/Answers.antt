use Rattle.std.proofs.Common.{rules, ◌∙◌}
use Rattle.job_script.proofs.Grouping.{list_of-more}
use Rattle.job_script.proofs.script.lengthen.Goals as goal

pub loop-preserved : goal.loop-preserved
loop-preserved c = record {
  same = λ k. rw c.in_ok-push.ensures.items (list_of-more c.loop.lists.items c.new.result k c.new.ensures.items ∙ c.loop.invariant.same k);
  enough = search rules;
}

pub returns-in_ok-push-clause-same : goal.returns-in_ok-push-clause-same
returns-in_ok-push-clause-same c =
    λ k. rw c.in_ok-push.ensures.items (list_of-more c.loop.lists.items c.new.result k c.new.ensures.items ∙ c.loop.invariant.same k)
