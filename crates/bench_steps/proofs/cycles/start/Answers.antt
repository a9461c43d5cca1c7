use Rattle.ckd_disk.specs.Disk.{disk}
use Rattle.unit_book.proofs.Counting.{starts-keep}
use Rattle.bench_steps.proofs.cycles.start.Goals as goal

pub returns-in-Ok : goal.returns-in-Ok
returns-in-Ok c = starts-keep disk _ c.in-Ok.field-0 _ c.in-Ok.ensures.ok
