use Rattle.std.specs.Iterator.Adapters.{zip_first, zip_second}
use Rattle.std.specs.Slice.Iter.{iter_rest}
use Rattle.std.specs.Vec.Iter.{into_iter_items}
use Rattle.std.specs.List.{zip}
use Rattle.job_media.proofs.InTurn.{IsSoFar}
use Rattle.job_media.proofs.units.mount_images.Given as goal

abbrev pub invariant-loop-unit : goal.invariant-loop-unit
invariant-loop-unit l =
    IsSoFar (zip l.fn.units l.fn.images.items)
    (zip (iter_rest (zip_first l.unit-iterator)) (into_iter_items (zip_second l.unit-iterator))) l.mounted
