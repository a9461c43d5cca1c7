use Rattle.std.proofs.Common.{◌≡◌, ◌+◌, ◌∷◌, [], ◌++◌, Result, Ok, map, append_assoc, length, drop, sym, ap, ◌∙◌, arith, rules}
use Rattle.std.proofs.lemmas.List.{drop-drop, length-append, map-append}
use Rattle.std.specs.Vec.Iter.{into_iter_items}
use Rattle.job_run.specs.declared.task_error.TaskError.{TaskError}
use Rattle.job_run.proofs.Printed.{all_made}
use Rattle.job_run.proofs.Rans.{all_done}
use Rattle.job_run.proofs.run.ends_of.Goals as goal

abbrev own : {A : Type 0} → A → Result A TaskError
own end = Ok end

pub loop-outcome-preserved : goal.loop-outcome-preserved
loop-outcome-preserved g c =
    let i = c.loop-outcome.invariant in
    let tasks = c.loop-outcome.tasks.items in
    let outcomes = c.args.outcomes.items in
    let rest = into_iter_items c.next.new.self in
    let step : into_iter_items c.loop-outcome.outcome-iterator ≡ c.in-Some.outcome ∷ rest = c.in-Some.ensures.steps.0 in
    let size : length c.push.new.self.items ≡ length tasks + 1 =
    ap length (c.in_ok-push.ensures {u = tt}).items ∙ length-append tasks (c.in_ok-outcome.field-0 ∷ []) in
    let left : rest ≡ drop (length tasks + 1) outcomes =
    ap (drop 1) (sym step ∙ i.left) ∙ drop-drop 1 (length tasks) outcomes in
    record {
      count = omega (arith, i.count, size, ap length step);
      made = ap (λ l. map own l ++ rest) (c.in_ok-push.ensures {u = tt}).items
          ∙ ap (λ l. l ++ rest) (map-append own tasks (c.in_ok-outcome.field-0 ∷ []))
          ∙ append_assoc (map own tasks) (own c.in_ok-outcome.field-0 ∷ []) rest
          ∙ ap (λ o. map own tasks ++ o ∷ rest) (sym c.in_ok-outcome.was)
          ∙ ap (λ l. map own tasks ++ l) (sym step) ∙ i.made;
      left = left ∙ ap (λ n. drop n outcomes) (sym size);
    }

pub returns-clause-done : goal.returns-clause-done
returns-clause-done g c =
    let rest = into_iter_items c.loop-outcome.outcome-iterator in
    let steps = c.in-None.ensures.steps in
    let none : length rest ≡ 0 = first_of (search (rules, steps), grind (arith, steps)) in
    all_done c.loop-outcome.tasks.items rest c.args.outcomes.items c.loop-outcome.invariant.made none

pub returns-clause-made : goal.returns-clause-made
returns-clause-made g c =
    let rest = into_iter_items c.loop-outcome.outcome-iterator in
    let steps = c.in-None.ensures.steps in
    let none : length rest ≡ 0 = first_of (search (rules, steps), grind (arith, steps)) in
    all_made c.loop-outcome.tasks.items rest c.args.outcomes.items c.loop-outcome.invariant.made none
