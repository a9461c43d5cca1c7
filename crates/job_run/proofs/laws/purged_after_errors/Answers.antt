use Rattle.job_run.proofs.Purged.{purged_after_errors}
use Rattle.job_run.proofs.laws.purged_after_errors.Goals as goal

pub returns : goal.returns
returns c = purged_after_errors
