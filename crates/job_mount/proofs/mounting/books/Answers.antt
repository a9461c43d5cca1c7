use Rattle.std.proofs.Common.{All, subst}
use Rattle.job_mount.specs.Requests.{CanBeDone}
use Rattle.job_mount.proofs.mounting.books.Goals as goal

pub returns-clause-requests : goal.returns-clause-requests
returns-clause-requests c = subst (All CanBeDone) c.deref-2.ensures.value c.in_ok-try_requests.ensures.each
