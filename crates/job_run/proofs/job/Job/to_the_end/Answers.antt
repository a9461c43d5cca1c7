use Rattle.job_run.proofs.Filled.{fills_more, got_grows}
use Rattle.job_run.proofs.Sent.{done-still, ends_full, first-by, stops-still}
use Rattle.job_run.proofs.job.Job.to_the_end.Goals as goal

pub returns-in_err-collect-clause-noted : goal.returns-in_err-collect-clause-noted
returns-in_err-collect-clause-noted g c = fills_more _ _ _ _ _ _ c.commands-done.ensures.noted c.collect.ensures.noted

pub returns-in_err-collect-clause-stopped : goal.returns-in_err-collect-clause-stopped
returns-in_err-collect-clause-stopped g c =
    let commands = c.args.self.now.script.now.commands.items in
    let old = c.args.client.now in
    ends_full c.from_residual.result commands old c.collect.new.client c.from_residual.ensures.1
    (first-by commands old c.commands-done.new.client c.collect.new.client c.commands-done.result c.commands-done.ensures.done
    c.commands-done.ensures.stopped c.collect.ensures.sent c.collect.ensures.asked (got_grows _ _ _ _ c.collect.ensures.noted))

pub returns-clause-noted : goal.returns-clause-noted
returns-clause-noted g c = fills_more _ _ _ _ _ _ c.commands-done.ensures.noted c.collect.ensures.noted

pub returns-clause-done : goal.returns-clause-done
returns-clause-done g c =
    done-still c.args.self.now.script.now.commands.items c.args.client.now c.commands-done.new.client c.collect.new.client c.commands-done.result
    c.commands-done.ensures.done c.collect.ensures.sent c.collect.ensures.asked (got_grows _ _ _ _ c.collect.ensures.noted)

pub returns-clause-stopped : goal.returns-clause-stopped
returns-clause-stopped g c =
    stops-still c.args.self.now.script.now.commands.items c.args.client.now c.commands-done.new.client c.collect.new.client c.commands-done.result
    c.commands-done.ensures.stopped c.collect.ensures.sent c.collect.ensures.asked (got_grows _ _ _ _ c.collect.ensures.noted)
