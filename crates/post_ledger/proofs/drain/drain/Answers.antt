use Rattle.std.proofs.Common.{List, ◌∙◌, refl, subst}
use Rattle.excp_system.specs.Drained.{Drained}
use Rattle.excp_system.specs.States.{Locked, TaskState}
use Rattle.post_ledger.specs.Work.{Works}
use Rattle.post_ledger.proofs.Pairs.{paired_more, paired_same}
use Rattle.post_ledger.proofs.Works.{collects_more, collects_none, works_more, works_none}
use Rattle.post_ledger.proofs.drain.drain.Goals as goal

pub loop-init : goal.loop-init
loop-init g c = record {
  works = paired_same Works c.args.units.now.items works_none;
  collects = collects_none g.S.Site.rows.units c.args.tasks.now.items c.args.posts.now.items;
  count = refl;
  lists = c.requires.lists;
}

pub returns-in_err-work_all-clause-works : goal.returns-in_err-work_all-clause-works
returns-in_err-work_all-clause-works g c = paired_more Works works_more c.loop.invariant.works c.work_all.ensures.works

pub returns-in_err-gather_all-clause-works : goal.returns-in_err-gather_all-clause-works
returns-in_err-gather_all-clause-works g c = paired_more Works works_more c.loop.invariant.works c.work_all.ensures.works

pub returns-in_err-gather_all-clause-collects : goal.returns-in_err-gather_all-clause-collects
returns-in_err-gather_all-clause-collects g c = collects_more g.S.Site.rows.units c.loop.invariant.collects c.gather_all.ensures.collects

pub returns-then-drained-clause-works : goal.returns-then-drained-clause-works
returns-then-drained-clause-works g c = paired_more Works works_more c.loop.invariant.works c.work_all.ensures.works

pub returns-then-drained-clause-collects : goal.returns-then-drained-clause-collects
returns-then-drained-clause-collects g c = collects_more g.S.Site.rows.units c.loop.invariant.collects c.gather_all.ensures.collects

pub loop-preserved : goal.loop-preserved
loop-preserved g c = record {
  works = paired_more Works works_more c.loop.invariant.works c.work_all.ensures.works;
  collects = collects_more g.S.Site.rows.units c.loop.invariant.collects c.gather_all.ensures.collects;
  count = c.gather_all.ensures.count ∙ c.loop.invariant.count;
  lists = c.gather_all.ensures.lists;
}

pub returns-then-drained-clause-drained : goal.returns-then-drained-clause-drained
returns-then-drained-clause-drained g c =
    subst (λ (q : List (Locked _) × List TaskState). Drained g.D.Device.meaning q.0 q.1)
    (λ i. (c.as_slice.ensures.value i, c.as_slice-in-loop.ensures.value i)) (c.drained.ensures.0 c.if-drained.true)
