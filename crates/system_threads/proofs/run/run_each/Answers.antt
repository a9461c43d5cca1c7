use Rattle.std.proofs.Common.{◌≡◌, ◌<◌, Option, length, rules, sym, ap, ◌∙◌, subst, arith, slice_index_or}
use Rattle.std.proofs.lemmas.Grind.{common_steps}
use Rattle.std.proofs.lemmas.Option.{slice_get-get_or, slice_get_within}
use Rattle.excp_system.proofs.Places.{some_is}
use Rattle.excp_system.specs.States.{TaskState}
use Rattle.system_threads.specs.Running.{HasRun}
use Rattle.system_threads.proofs.run.run_each.Goals as goal

pub returns-clause-placed : goal.returns-clause-placed
returns-clause-placed g c =
    let old = c.args.runners.now in
    let new = c.for_each_mut.new.s in
    let as_many : length new ≡ length old = first_of (search rules, grind (arith, common_steps)) in
    record {
      count_is = as_many ∙ c.requires.placed.count_is;
      each = λ k x at.
          let behind : k < length new = slice_get_within new k x at in
          let within : k < length old = omega (arith, behind, as_many) in
          let change = (c.for_each_mut.ensures k x within).1 in
          let call = change.call in
          let kept : change.after_call.now.client.number ≡ change.argument.now.client.number =
          first_of (search (rules, call), grind (call, arith, common_steps)) in
          let is : slice_index_or new k x ≡ x = some_is (slice_index_or new k x) x (sym (slice_get-get_or new k x behind) ∙ at) in
          ap (λ r. r.client.number) (sym is) ∙ ap (λ r. r.client.number) (sym change.left) ∙ kept
          ∙ ap (λ r. r.client.number) change.argument_is
          ∙ c.requires.placed.each k (slice_index_or old k x) (slice_get-get_or old k x within);
    }

pub returns-clause-runs : goal.returns-clause-runs
returns-clause-runs g c =
    let old = c.args.runners.now in
    let new = c.for_each_mut.new.s in
    let runs = g.P.TaskProgram.runs c.args.program.now in
    let as_many : length new ≡ length old = first_of (search rules, grind (arith, common_steps)) in
    record {
      count = as_many;
      each = λ k x y at at'.
          let within : k < length old = slice_get_within old k x at in
          let behind : k < length new = slice_get_within new k y at' in
          let change = (c.for_each_mut.ensures k x within).1 in
          let call = change.call in
          let ran : HasRun runs change.argument.now.client change.after_call.now.client change.after_call.now.outcome =
          first_of (search (rules, call), grind (call, arith, common_steps)) in
          let began = change.argument_is ∙ some_is (slice_index_or old k x) x (sym (slice_get-get_or old k x within) ∙ at) in
          let ended = change.left ∙ some_is (slice_index_or new k x) y (sym (slice_get-get_or new k x behind) ∙ at') in
          subst (λ (q : TaskState × (TaskState × Option _)). HasRun runs q.0 q.1.0 q.1.1)
          (λ i. ((began i).client, ((ended i).client, (ended i).outcome))) ran;
    }
