use Rattle.std.proofs.Common.{◌∙◌, ap, List, length, ◌==◌}
use Rattle.std.specs.List.{filter}
use Rattle.request_piece.specs.declared.piece.Piece.{Piece}
use Rattle.ckd_disk.specs.Disk.{DiskState}
use Rattle.unit_book.specs.Book.{Book}
use Rattle.unit_book.specs.Trace.{arrivals}
use Rattle.bench_steps.proofs.cycles.Cycles.new.Goals as goal

pub returns : goal.returns
unfolding arrivals
returns c = (ap (λ (l : List Piece). length (filter (λ (r : Piece). r.name.task == 0) l))
    (c.open.ensures ∙ ap (λ (b : Book DiskState). arrivals b.trace) c.in_ok-book.ensures.ok))
