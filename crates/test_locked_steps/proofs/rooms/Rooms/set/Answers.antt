use Rattle.std.proofs.Common.{arith}
use Rattle.std.proofs.lemmas.Grind.{common_steps}
use Rattle.test_locked_steps.proofs.rooms.Rooms.set.Goals as goal

pub returns-else-unit-lt64 : goal.returns-else-unit-lt64
returns-else-unit-lt64 c = grind (arith, common_steps)
