use Rattle.std.proofs.Common.{subst}
use Rattle.post_ledger.specs.Report.{Controls}
use Rattle.system_threads.proofs.run.run_at.Goals as goal

pub returns-clause-accounts : goal.returns-clause-accounts
returns-clause-accounts g c = record {
  tasks = c.in_ok-tasks.tasks.items;
  placed = c.in_ok-tasks.ensures.placed;
  run = c.in_ok-tasks.ensures.run;
  received = c.in_ok-report.ensures.received;
  controlled = subst (λ b. Controls b g.S.Opened.opened c.in_ok-report.report c.in_ok-tasks.tasks.items) c.requires.sealed
      c.in_ok-report.ensures.controlled;
  posted_once = c.in_ok-report.ensures.posted_once;
  returned = c.in_ok-report.ensures.returned;
}
