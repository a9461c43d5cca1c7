use Rattle.std.proofs.Common.{◌≡◌}
use Rattle.job_script.specs.Commands.{most, request_count_to}
use Rattle.job_script.proofs.script.Script.most_to_a_unit.Given as goal

abbrev pub invariant-loop-unit : goal.invariant-loop-unit
invariant-loop-unit l = l.largest ≡ most (request_count_to l.self.commands.items) l.unit
