use Rattle.std.proofs.Common.{◌≡◌, drop, map}
use Rattle.std.specs.List.{AllWithin}
use Rattle.job_script.specs.Views.{command_said}
use Rattle.job_mount.specs.Mounting.{tried}
use Rattle.job_mount.specs.Requests.{CanBeDone}
use Rattle.job_mount.proofs.mounting.try_requests.Given as goal

abbrev pub invariant-loop-command : goal.invariant-loop-command
invariant-loop-command l = record {
  exact : tried (map command_said (drop l.command-index l.commands)) ≡ tried (map command_said l.commands);
  each : AllWithin CanBeDone l.commands 0 l.command-index;
}
