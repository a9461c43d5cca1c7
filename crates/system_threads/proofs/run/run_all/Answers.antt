use Rattle.std.proofs.Common.{◌≡◌, List, ◌++◌, drop, length, rules, sym, subst, take, arith}
use Rattle.std.proofs.lemmas.Grind.{common_steps}
use Rattle.post_ledger.specs.Parting.{Paired}
use Rattle.system_threads.specs.Running.{HasRun}
use Rattle.system_threads.proofs.run.run_all.Goals as goal

pub returns-clause-runs : goal.returns-clause-runs
returns-clause-runs g c =
    let runs = g.P.TaskProgram.runs c.args.program.now in
    let new = c.run_each.new.runners in
    let came : take c.args.runners.len (new ++ drop (length new) c.args.runners.items) ≡ new =
    first_of (search rules, grind (arith, common_steps)) in
    let went : c.as_mut_slice.result.now ≡ c.args.runners.items = first_of (search rules, grind (arith, common_steps)) in
    subst (λ (l : List _). Paired (λ old new. HasRun runs old.client new.client new.outcome) c.args.runners.items l) (sym came)
    (subst (λ (l : List _). Paired (λ old new. HasRun runs old.client new.client new.outcome) l new) went c.run_each.ensures.runs)
