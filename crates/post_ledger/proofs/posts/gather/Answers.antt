use Rattle.std.proofs.Common.{◌≡◌, ◌∙◌, ◌<◌, ap, arith, get_or, length, set, subst, sym}
use Rattle.std.proofs.lemmas.List.{length-map}
use Rattle.std.proofs.Math.ListN.{length-set}
use Rattle.post_ledger.specs.Work.{Gathers, items_of_all}
use Rattle.post_ledger.proofs.Works.{gathers_more, gathers_push}
use Rattle.post_ledger.proofs.posts.gather.Goals as goal

pub loop-preserved : goal.loop-preserved
loop-preserved g c =
    let units = g.S.Site.rows.units in
    let first = c.args.lists.now.items in
    let lists = c.make_room.new.lists.items in
    let p = c.in-Some-take_post.value in
    let list = c.index_mut.result.now in
    let i = c.loop.invariant in
    let place : c.from-place.result ≡ p.unit = c.from-place.ensures ∙ c.unit.ensures in
    let same : length lists ≡ units = sym (length-map lists (λ v. v.items)) ∙ ap length c.make_room.ensures.values
    ∙ length-map c.loop.lists.items (λ v. v.items) ∙ i.count in
    let lt : p.unit < length lists = omega (arith, c.in-Some-take_post.ensures.of_unit, same) in
    record {
      gathers = subst (λ k. Gathers units c.args.task.now c.take_post.new.self (items_of_all first)
          (items_of_all (set lists k c.push_reserved.new.self))) (sym place)
          (gathers_more units c.args.task.now c.loop.task c.take_post.new.self (items_of_all first) (items_of_all lists)
          (items_of_all (set lists p.unit c.push_reserved.new.self))
          (subst (Gathers units c.args.task.now c.loop.task (items_of_all first)) (sym c.make_room.ensures.values) i.gathers)
          (gathers_push units c.loop.task c.take_post.new.self lists list c.push_reserved.new.self p lt
          (c.index_mut.ensures.value ∙ ap (λ k. get_or lists k list) place) c.push_reserved.ensures.items
          c.in-Some-take_post.ensures.collected));
      count = length-set lists c.from-place.result c.push_reserved.new.self ∙ same;
    }
