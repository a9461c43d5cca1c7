use Rattle.std.proofs.Common.{take}
use Rattle.std.specs.List.{All}
use Rattle.excp_system.specs.Drained.{IsDrained}
use Rattle.excp_system.proofs.balance.drained.Given as goal

abbrev pub invariant-loop-unit : goal.invariant-loop-unit
invariant-loop-unit g l = All (IsDrained g.D.Device.meaning l.tasks) (take l.unit-index l.units)
