use Rattle.system_threads.proofs.Running.{are_run}
use Rattle.system_threads.proofs.run.run_tasks.Goals as goal

pub returns-clause-run : goal.returns-clause-run
returns-clause-run g c = are_run (λ runner. runner.client) (λ runner. runner.outcome) (g.P.TaskProgram.runs c.args.program.now)
    g.S.Site.rows.units g.S.Site.rows.tasks c.args.tasks.items c.parted.result.0.items c.in_ok-runners.runners.items
    c.in_ok-runners-2.runners.items c.parted.result.1.items c.requires.tasks c.in_ok-runners.ensures.clients
    c.in_ok-runners-2.ensures.runs c.parted.ensures.tasks c.parted.ensures.outcomes
