use Rattle.std.proofs.Common.{rules, arith}
use Rattle.std.proofs.iter.Serving.{serving}
use Rattle.std.proofs.lemmas.Grind.{common_steps}
use Rattle.system_threads.proofs.run.run_beside.Goals as goal

pub scoped-requires : goal.scoped-requires
scoped-requires g c = first_of (grind serving, search rules, grind (arith, common_steps))
