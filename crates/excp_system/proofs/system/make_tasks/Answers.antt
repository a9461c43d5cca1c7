use Rattle.std.proofs.Common.{◌≡◌, ◌+◌, List, [], ◌∷◌, ◌++◌, length, sym, ap, ◌∙◌, subst, arith, length-append, drop}
use Rattle.std.specs.Iterator.Adapters.{zip_first, zip_second}
use Rattle.std.specs.Vec.Iter.{into_iter_items}
use Rattle.fifo_row.specs.Ends.{Taking}
use Rattle.std.proofs.lemmas.Option.{slice_get_within}
use Rattle.excp_system.specs.Controls.{PensState}
use Rattle.excp_system.specs.Opening.{AreTasks}
use Rattle.excp_system.proofs.Places.{drop_get, drop_next}
use Rattle.excp_system.proofs.Makes.{is_task, tasks_next}
use Rattle.excp_system.proofs.system.make_tasks.Goals as goal

pub new-requires : goal.new-requires
new-requires g c =
    let i = c.loop-fan.invariant in
    let fan = c.in-Some.fan in
    let end = c.in-Some.taker in
    let t = length c.loop-fan.yielded in
    let rest = c.next.new.self in
    let there = drop_get t c.args.out.items (into_iter_items (zip_first (zip_first rest))) fan (sym i.fans ∙ c.in-Some.ensures.steps.0.0.0) in
    let there' = drop_get t c.args.collected.items (into_iter_items (zip_second (zip_first rest))) end
    (sym i.takers ∙ c.in-Some.ensures.steps.0.1.0) in
    let hand = drop_get t c.args.hands.items (into_iter_items (zip_second rest)) c.in-Some.pens (sym i.hands ∙ c.in-Some.ensures.steps.1.0) in
    is_task g.S.Site.rows t c.number.result fan end c.in-Some.pens c.number.ensures
    (omega (arith, slice_get_within c.args.out.items t fan there, c.requires.out.count_is)) c.requires.few_units
    (c.requires.out.each t fan there) (c.requires.collected.each t end there') (c.requires.hands.each t c.in-Some.pens hand)

pub loop-fan-preserved : goal.loop-fan-preserved
loop-fan-preserved g c =
    let i = c.loop-fan.invariant in
    let units = g.S.Site.rows.units in
    let fan = c.in-Some.fan in
    let end = c.in-Some.taker in
    let yielded = c.loop-fan.yielded in
    let t = length yielded in
    let old = c.loop-fan.tasks.items in
    let pens = c.in-Some.pens in
    let rest = c.next.new.self in
    let came = sym i.fans ∙ c.in-Some.ensures.steps.0.0.0 in
    let came' = sym i.takers ∙ c.in-Some.ensures.steps.0.1.0 in
    let hand = sym i.hands ∙ c.in-Some.ensures.steps.1.0 in
    let there = drop_get t c.args.out.items (into_iter_items (zip_first (zip_first rest))) fan came in
    let there' = drop_get t c.args.collected.items (into_iter_items (zip_second (zip_first rest))) end came' in
    let hand_there = drop_get t c.args.hands.items (into_iter_items (zip_second rest)) pens hand in
    let one : length (yielded ++ ((fan, end), pens) ∷ []) ≡ t + 1 = length-append yielded (((fan, end), pens) ∷ []) in
    let none : end.taken ≡ [] = ap (λ (e : Taking _). e.taken) (c.requires.collected.each t end there') in
    record {
      here = ap length c.in_ok-push.ensures.items ∙ omega (arith, i.here, one, length-append old (c.new.result ∷ []));
      fans = drop_next t c.args.out.items (into_iter_items (zip_first (zip_first rest))) fan came
          ∙ ap (λ n. drop n c.args.out.items) (sym one);
      takers = drop_next t c.args.collected.items (into_iter_items (zip_second (zip_first rest))) end came'
          ∙ ap (λ n. drop n c.args.collected.items) (sym one);
      hands = drop_next t c.args.hands.items (into_iter_items (zip_second rest)) pens hand ∙ ap (λ n. drop n c.args.hands.items) (sym one);
      tasks = subst (λ (l : List _). AreTasks (length (yielded ++ ((fan, end), pens) ∷ [])) units l) (sym c.in_ok-push.ensures.items)
          (subst (λ n. AreTasks n units (old ++ c.new.result ∷ [])) (sym one)
          (tasks_next units t old c.new.result c.number.result fan end.taken pens.asked i.here i.tasks c.new.ensures c.number.ensures
          (c.requires.out.each t fan there) none (ap (λ (p : PensState). p.asked) (c.requires.hands.each t pens hand_there))));
    }
