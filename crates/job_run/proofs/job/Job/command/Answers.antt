use Rattle.std.proofs.Common.{ap}
use Rattle.job_mount.specs.Requests.{excp_of}
use Rattle.job_script.specs.Commands.{named_dcb}
use Rattle.job_run.proofs.job.Job.command.Goals as goal

pub issue-requires-clause-unit : goal.issue-requires-clause-unit
issue-requires-clause-unit g c = c.requires.units c.in-Excp.excp.dcb (ap named_dcb c.in-Excp.is)

pub issue-requires-clause-request : goal.issue-requires-clause-request
issue-requires-clause-request g c = c.requires.request c.in-Excp.excp (ap excp_of c.in-Excp.is)

pub control-requires : goal.control-requires
control-requires g c = c.requires.units c.in-Purge.dcb (ap named_dcb c.in-Purge.is)

pub control-requires-in-Close : goal.control-requires-in-Close
control-requires-in-Close g c = c.requires.units c.in-Close.dcb (ap named_dcb c.in-Close.is)

pub control-requires-in-Reset : goal.control-requires-in-Reset
control-requires-in-Reset g c = c.requires.units c.in-Reset.dcb (ap named_dcb c.in-Reset.is)
