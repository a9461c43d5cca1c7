use Rattle.std.proofs.Common.{subst}
use Rattle.job_script.specs.declared.script.Script.{Script}
use Rattle.job_run.specs.Filling.{RunsScript}
use Rattle.job_run.proofs.Printed.{fills_own}
use Rattle.job_run.proofs.Sent.{does_script}
use Rattle.job_run.proofs.script_tasks.ScriptTasksTaskProgramAnyDevice.run.Goals as goal

pub returns-clause-runs : goal.returns-clause-runs
returns-clause-runs g c =
    let own = c.new.result.script.now in
    subst (λ (s : Script). RunsScript s c.args.client.now c.task.new.client c.task.result) c.new.ensures
    (record {
      does = does_script c.task.result own.commands.items c.args.client.now c.task.new.client c.task.ensures.done
          c.task.ensures.awaits_none c.task.ensures.stopped;
      fills = fills_own c.task.result own c.args.client.now c.task.new.client c.task.ensures.noted;
    })
