use Rattle.job_run.proofs.Sent.{does-none, ends_full}
use Rattle.job_run.proofs.job.Job.task.Goals as goal

pub returns-in_err-end-clause-stopped : goal.returns-in_err-end-clause-stopped
returns-in_err-end-clause-stopped g c =
    let client = c.args.client.now in
    let commands = c.args.self.now.script.now.commands.items in
    ends_full c.from_residual.result commands client client c.from_residual.ensures.1 (does-none commands client)
