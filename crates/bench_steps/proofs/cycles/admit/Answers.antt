use Rattle.std.proofs.Common.{◌∷◌, ◌∙◌, ap}
use Rattle.ckd_disk.specs.Disk.{DiskState}
use Rattle.unit_book.specs.declared.entry.Entry.TheVariants.{Arrive}
use Rattle.unit_book.specs.Book.{Book}
use Rattle.unit_book.specs.Trace.{arrivals}
use Rattle.unit_book.proofs.Counting.{arrivals-after_dooms}
use Rattle.bench_steps.proofs.cycles.admit.Goals as goal
use Rattle.bench_steps.proofs.cycles.admit.Goals.{in-Ok, in-Err}

pub returns-clause-ok : goal.returns-clause-ok
returns-clause-ok c = elim c.match-arrive.branch [
  | in-Ok w ↦ rw w.result-is (ap (λ (b : Book DiskState). arrivals b.trace) w.in-Ok.ensures.ok
      ∙ arrivals-after_dooms (Arrive c.args.request ∷ c.args.book.now.trace))
  | in-Err w ↦ rw w.result-is tt
]
