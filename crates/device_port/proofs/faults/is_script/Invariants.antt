use Rattle.std.proofs.Common.{◌≡◌, drop}
use Rattle.device_port.specs.Faults.{are_faults_after}
use Rattle.device_port.proofs.faults.is_script.Given as goal

abbrev pub invariant-loop-fault : goal.invariant-loop-fault
invariant-loop-fault l = are_faults_after 0 l.faults ≡ are_faults_after l.last (drop l.fault-index l.faults)
