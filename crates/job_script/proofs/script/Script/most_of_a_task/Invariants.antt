use Rattle.std.proofs.Common.{◌≡◌}
use Rattle.job_script.specs.Commands.{most, request_count_of}
use Rattle.job_script.proofs.script.Script.most_of_a_task.Given as goal

abbrev pub invariant-loop-task : goal.invariant-loop-task
invariant-loop-task l = l.largest ≡ most (request_count_of l.self.commands.items) l.task
