use Rattle.ckd_disk.specs.Disk.{disk}
use Rattle.unit_book.proofs.Counting.{opens-keep}
use Rattle.bench_steps.proofs.cycles.open.Goals as goal

pub returns-in-Ok : goal.returns-in-Ok
returns-in-Ok c = opens-keep disk c.in-Ok.ensures.ok
