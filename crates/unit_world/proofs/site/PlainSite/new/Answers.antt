use Rattle.std.proofs.Common.{◌∙◌, [], map, subst, sym, ap}
use Rattle.unit_world.specs.Parts.{unit_part}
use Rattle.unit_world.specs.PostLists.{PostLists}
use Rattle.unit_world.specs.Sites.{SiteState, IsSite}
use Rattle.unit_world.proofs.Deliveries.{empty-site}
use Rattle.unit_world.proofs.site.PlainSite.new.Goals as goal

pub invariant_of-result : goal.invariant_of-result
invariant_of-result g c =
    let meaning = g.D.Device.meaning in
    let new : SiteState _ =
    record { units = map unit_part c.new-2.result.items; post_room = c.in_ok-rows.rows.room; rows = c.in_ok-rows.rows.lists } in
    let same = ap (λ us. record new { units = map unit_part us }) c.new-2.ensures.items
    ∙ ap (λ (l : PostLists). record new { units = []; post_room = l.room; rows = l.lists }) c.in_ok-rows.ensures in
    subst (IsSite meaning) (sym same) (empty-site meaning c.args.tasks c.args.post)
