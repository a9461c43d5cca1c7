use Rattle.ckd_disk.specs.Disk.{disk}
use Rattle.unit_book.proofs.Counting.{runs-keep}
use Rattle.bench_steps.proofs.cycles.run.Goals as goal

pub returns-in-Ok : goal.returns-in-Ok
returns-in-Ok c = runs-keep disk _ 4294967295 c.in-Ok.field-0 _ c.in-Ok.ensures.ok
