use Rattle.std.proofs.Common.{◌≡◌, [], ◌∷◌, ◌++◌, length, rules, sym, ◌∙◌, arith, append_assoc}
use Rattle.std.specs.Vec.Iter.{into_iter_items}
use Rattle.std.proofs.lemmas.Grind.{common_steps}
use Rattle.std.proofs.lemmas.List.Elements.{All-push}
use Rattle.excp_system.specs.States.{TaskState}
use Rattle.post_ledger.specs.Parting.{hand_of, out_of, post_end}
use Rattle.post_ledger.proofs.Pairs.{map_snoc}
use Rattle.post_ledger.proofs.parting.split_tasks.Goals as goal

pub loop-task-preserved : goal.loop-task-preserved
loop-task-preserved g c =
    let i = c.loop-task.invariant in
    let s = g.S.Site.rows in
    let w = c.in-Some.task in
    let e = c.into_parts-out.ensures in
    let all : c.args.tasks.items ≡ c.loop-task.yielded ++ w ∷ into_iter_items c.next.new.self =
    first_of (search rules, grind (arith, common_steps)) in
    record {
      all = all ∙ sym (append_assoc c.loop-task.yielded (w ∷ []) (into_iter_items c.next.new.self));
      outs = c.push_reserved.ensures.items ∙ map_snoc out_of c.loop-task.yielded w c.loop-task.outs.items c.into_parts-out.result.0 i.outs
          e.out_is;
      collected = c.push_reserved-in-loop-task.ensures.items
          ∙ map_snoc (post_end s) c.loop-task.yielded w c.loop-task.collected.items c.into_parts-out.result.1 i.collected e.collected_is;
      counts = All-push (λ (x : TaskState). length x.sent ≡ s.units) c.loop-task.yielded w i.counts e.count;
      hands = c.push_reserved-in-loop-task-2.ensures.items
          ∙ map_snoc hand_of c.loop-task.yielded w c.loop-task.hands.items c.into_parts-out.result.2 i.hands e.pens_are;
      pens = All-push (λ (x : TaskState). length x.asked ≡ s.units) c.loop-task.yielded w i.pens e.pen_count;
      room = (
        omega (arith, i.room.0, c.push_reserved.ensures.capacity),
        omega (arith, i.room.1, c.push_reserved-in-loop-task.ensures.capacity),
        omega (arith, i.room.2, c.push_reserved-in-loop-task-2.ensures.capacity),
      );
    }
