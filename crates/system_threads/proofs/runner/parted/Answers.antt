use Rattle.std.proofs.Common.{◌≡◌, ◌+◌, List, [], ◌∷◌, ◌++◌, Some, length, map, rules, sym, ap, ◌∙◌, subst, arith, length-append, append_assoc}
use Rattle.std.specs.Vec.Iter.{into_iter_items}
use Rattle.std.proofs.lemmas.Grind.{common_steps}
use Rattle.std.proofs.lemmas.List.{map-append}
use Rattle.excp_system.specs.Drained.{ArePlaced}
use Rattle.excp_system.specs.States.{TaskState}
use Rattle.post_ledger.proofs.Pairs.{map_snoc}
use Rattle.system_threads.proofs.Placing.{placed_more}
use Rattle.system_threads.proofs.runner.parted.Goals as goal

pub loop-runner-preserved : goal.loop-runner-preserved
loop-runner-preserved g c =
    let i = c.loop-runner.invariant in
    let runner = c.in-Some.runner in
    let yielded = c.loop-runner.yielded in
    let rest = into_iter_items c.next.new.self in
    let task = c.into_task.result in
    let outcome = c.in-Some-outcome.outcome in
    let left : Some outcome ≡ runner.outcome = search rules in
    let all : c.args.runners.items ≡ yielded ++ runner ∷ rest = first_of (search rules, grind (arith, common_steps)) in
    record {
      all = all ∙ sym (append_assoc yielded (runner ∷ []) rest);
      tasks = c.push_reserved.ensures.items
          ∙ map_snoc (λ runner. runner.client) yielded runner c.loop-runner.tasks.items task i.tasks c.into_task.ensures;
      outcomes = ap (map Some) c.push_reserved-in-loop-runner.ensures.items
          ∙ (map-append Some c.loop-runner.outcomes.items (outcome ∷ [])
          ∙ map_snoc (λ runner. runner.outcome) yielded runner (map Some c.loop-runner.outcomes.items) (Some outcome) i.outcomes left);
      made = subst (λ (l : List TaskState). ArePlaced (λ task. task.number) (length (yielded ++ runner ∷ [])) l)
          (sym c.push_reserved.ensures.items)
          (placed_more (λ runner. runner.client.number) (λ (task : TaskState). task.number) g.S.Site.rows.tasks c.args.runners.items
          yielded rest runner c.loop-runner.tasks.items task c.requires.placed all i.made
          (ap (λ (w : TaskState). w.number) c.into_task.ensures));
      kept = ap length c.push_reserved-in-loop-runner.ensures.items ∙ length-append c.loop-runner.outcomes.items (outcome ∷ [])
          ∙ ap (λ n. n + 1) i.kept ∙ sym (length-append yielded (runner ∷ []));
      room = (
        omega (arith, i.room.0, c.push_reserved.ensures.capacity),
        omega (arith, i.room.1, c.push_reserved-in-loop-runner.ensures.capacity),
      );
    }
