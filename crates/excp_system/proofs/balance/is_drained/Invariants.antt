use Rattle.std.proofs.Common.{take}
use Rattle.std.specs.List.{All}
use Rattle.excp_system.specs.Drained.{IsTaken}
use Rattle.excp_system.proofs.balance.is_drained.Given as goal

abbrev pub invariant-loop-task : goal.invariant-loop-task
invariant-loop-task g l = All (IsTaken g.D.Device.meaning l.unit) (take l.task-index l.tasks)
