use Rattle.std.proofs.Common.{◌≡◌, ◌<◌, ◌∙◌, length, refl, arith}
use Rattle.std.proofs.Math.ListN.{length-set}
use Rattle.std.proofs.lemmas.List.Elements.{All-set}
use Rattle.post_ledger.proofs.Works.{collects_next, collects_none}
use Rattle.post_ledger.proofs.drain.gather_all.Goals as goal

pub loop-place-init : goal.loop-place-init
loop-place-init g c = record {
  collects = collects_none g.S.Site.rows.units c.args.tasks.now.items c.args.posts.now.items;
  count = refl;
  lists = c.requires.lists;
}

pub returns-in_err-gather-clause-collects : goal.returns-in_err-gather-clause-collects
returns-in_err-gather-clause-collects g c =
    let tasks = c.loop-place.tasks.items in
    let lists = c.loop-place.posts.items in
    let i = c.loop-place.place in
    let inv = c.loop-place.invariant in
    let lt : i < length tasks = omega (arith, c.loop-place-test.true, c.len-place-end.ensures, c.args.tasks.now.ok.0, inv.collects.count) in
    let lt' : i < length lists = omega (arith, lt, inv.collects.count, inv.count, c.requires.count) in
    collects_next g.S.Site.rows.units tasks lists i c.index_mut-task.result.now c.gather.new.task c.index_mut-lists.result.now
    c.gather.new.self lt lt' c.index_mut-task.ensures.value c.index_mut-lists.ensures.value inv.collects c.gather.ensures.gathers

pub loop-place-preserved : goal.loop-place-preserved
loop-place-preserved g c =
    let tasks = c.loop-place.tasks.items in
    let lists = c.loop-place.posts.items in
    let i = c.loop-place.place in
    let inv = c.loop-place.invariant in
    let lt : i < length tasks = omega (arith, c.loop-place-test.true, c.len-place-end.ensures, c.args.tasks.now.ok.0, inv.collects.count) in
    let lt' : i < length lists = omega (arith, lt, inv.collects.count, inv.count, c.requires.count) in
    record {
      collects = collects_next g.S.Site.rows.units tasks lists i c.index_mut-task.result.now c.gather.new.task c.index_mut-lists.result.now
          c.gather.new.self lt lt' c.index_mut-task.ensures.value c.index_mut-lists.ensures.value inv.collects c.gather.ensures.gathers;
      count = length-set lists i c.gather.new.self ∙ inv.count;
      lists = All-set (λ lists. length lists ≡ g.S.Site.rows.units) lists i c.gather.new.self c.gather.ensures.count inv.lists;
    }
