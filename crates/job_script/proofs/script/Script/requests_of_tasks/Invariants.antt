use Rattle.std.proofs.Common.{◌≡◌, ◌<◌, ℕ, length, get_or, take}
use Rattle.job_script.specs.Commands.{request_count_of}
use Rattle.job_script.proofs.script.Script.requests_of_tasks.Given as goal

abbrev pub invariant-loop-command : goal.invariant-loop-command
invariant-loop-command l = record {
  room : length l.counts ≡ 64;
  counted : (task : ℕ) → task < 64 → get_or l.counts task 0 ≡ request_count_of (take l.command-index l.self.commands.items) task;
}
