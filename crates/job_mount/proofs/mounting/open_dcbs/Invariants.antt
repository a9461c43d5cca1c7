use Rattle.std.proofs.Common.{◌≡◌, drop, map}
use Rattle.job_script.specs.Views.{opening_said}
use Rattle.job_mount.specs.Books.{IsFresh}
use Rattle.job_mount.specs.Openings.{open_all}
use Rattle.job_mount.specs.Outcomes.{without_spare}
use Rattle.job_mount.proofs.mounting.open_dcbs.Given as goal

abbrev pub invariant-loop-opening : goal.invariant-loop-opening
invariant-loop-opening l = record {
  exact : open_all (without_spare l.book) (map opening_said (drop l.opening-index l.openings)) ≡ open_all (without_spare l.fn.book)
      (map opening_said l.openings);
  fresh : IsFresh l.book;
  room : l.book.capacity ≡ l.fn.book.capacity;
}
