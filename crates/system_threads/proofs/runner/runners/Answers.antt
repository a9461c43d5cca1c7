use Rattle.std.proofs.Common.{◌≡◌, List, [], ◌∷◌, ◌++◌, length, map, rules, sym, ap, ◌∙◌, subst, arith, append_assoc}
use Rattle.std.specs.Vec.Iter.{into_iter_items}
use Rattle.std.proofs.lemmas.Grind.{common_steps}
use Rattle.std.proofs.lemmas.List.{map-append}
use Rattle.excp_system.specs.Drained.{ArePlaced}
use Rattle.excp_system.specs.States.{TaskState}
use Rattle.excp_system.proofs.Places.{get_at_seam}
use Rattle.system_threads.proofs.Counting.{fresh_counted}
use Rattle.system_threads.proofs.Placing.{placed_more}
use Rattle.system_threads.proofs.runner.runners.Goals as goal

pub new-requires : goal.new-requires
new-requires g c =
    let yielded = c.loop-task.yielded in
    let rest = into_iter_items c.next.new.self in
    let all : c.args.tasks.items ≡ yielded ++ c.in-Some.task ∷ rest = first_of (search rules, grind (arith, common_steps)) in
    fresh_counted c.in-Some.task g.S.Site.rows.units (length yielded)
    (c.requires.each (length yielded) c.in-Some.task (get_at_seam yielded rest all))

pub loop-task-preserved : goal.loop-task-preserved
loop-task-preserved g c =
    let task = c.in-Some.task in
    let yielded = c.loop-task.yielded in
    let rest = into_iter_items c.next.new.self in
    let placed : ArePlaced (λ (task : TaskState). task.number) g.S.Site.rows.tasks c.args.tasks.items = record {
      count_is = c.requires.count_is;
      each = λ k w at. ap (λ (w : TaskState). w.number) (c.requires.each k w at);
    } in
    let all : c.args.tasks.items ≡ yielded ++ task ∷ rest = first_of (search rules, grind (arith, common_steps)) in
    record {
      all = all ∙ sym (append_assoc yielded (task ∷ []) rest);
      clients = ap (map (λ runner. runner.client)) c.in_ok-push.ensures.items
          ∙ (map-append (λ runner. runner.client) c.loop-task.runners.items (_ ∷ [])
          ∙ (λ j. c.loop-task.invariant.clients j ++ c.in_ok-client.ensures j ∷ []));
      made = subst (λ (l : List _). ArePlaced (λ runner. runner.client.number) (length (yielded ++ task ∷ [])) l)
          (sym c.in_ok-push.ensures.items)
          (placed_more (λ (task : TaskState). task.number) (λ runner. runner.client.number) g.S.Site.rows.tasks c.args.tasks.items yielded
          rest task c.loop-task.runners.items _ placed all c.loop-task.invariant.made
          (ap (λ (w : TaskState). w.number) c.in_ok-client.ensures));
    }
