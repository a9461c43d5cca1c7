use Rattle.std.proofs.Common.{◌≡◌, map}
use Rattle.std.specs.List.{range_with_len}
use Rattle.excp_site.specs.Extents.{extent_at}
use Rattle.excp_site.proofs.deb.extents.Given as goal

abbrev pub invariant-loop-place : goal.invariant-loop-place
invariant-loop-place l = l.extents.items ≡ map (extent_at l.bytes) (range_with_len 0 l.place)
