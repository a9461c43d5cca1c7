use Rattle.std.proofs.Common.{◌≡◌, drop, map, None}
use Rattle.std.specs.Prelude.{All, vec_len}
use Rattle.std.specs.Vec.Iter.{into_iter_items}
use Rattle.job_script.specs.Views.{unit_said}
use Rattle.job_mount.specs.Books.{HasRoom, IsFresh}
use Rattle.job_mount.specs.Mounting.{units_with}
use Rattle.job_mount.specs.Outcomes.{all_without_spare}
use Rattle.job_mount.proofs.Openings.{after}
use Rattle.job_mount.proofs.mounting.opened_books.Given as goal

abbrev pub invariant-loop-unit : goal.invariant-loop-unit
invariant-loop-unit l = record {
  exact : after l.capacity l.first (all_without_spare l.books) (into_iter_items l.given) (map unit_said (drop l.unit-index l.units))
      ≡ units_with l.capacity l.fn.given.items (map unit_said l.units);
  count : l.first ≡ None → vec_len l.books ≡ l.unit-index;
  fresh : All IsFresh l.books.items;
  room : All (HasRoom l.capacity) l.books.items;
}
