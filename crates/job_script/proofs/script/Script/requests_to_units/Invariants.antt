use Rattle.std.proofs.Common.{◌≡◌, ◌<◌, ℕ, length, get_or, take}
use Rattle.job_script.specs.Commands.{request_count_to}
use Rattle.job_script.proofs.script.Script.requests_to_units.Given as goal

abbrev pub invariant-loop-command : goal.invariant-loop-command
invariant-loop-command l = record {
  room : length l.counts ≡ 64;
  counted : (unit : ℕ) → unit < 64 → get_or l.counts unit 0 ≡ request_count_to (take l.command-index l.self.commands.items) unit;
}
