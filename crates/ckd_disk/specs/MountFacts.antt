-- What the tests of mounting say, fact by fact.
use Rattle.std.specs.Prelude.{◌*◌, ◌<◌, ◌≤◌, length}
use Rattle.ckd_disk.specs.declared.mount.Geometry.{Geometry}
use Rattle.ckd_disk.specs.declared.mount.InitialRecord.{InitialRecord}
use Rattle.ckd_disk.specs.Mount.{track_count}

-- a valid geometry, by its bounds
pub record IsGeometry (g : Geometry) : Type 0 where
  pub cylinders : 1 ≤ g.cylinders
  pub heads : 1 ≤ g.heads
  pub tracks : track_count g ≤ 65_535
  pub short : 16 ≤ g.track_bytes
  pub long : g.track_bytes ≤ 65_535
  pub whole : track_count g * g.track_bytes ≤ 16_777_216

-- a record that fits the geometry, by its bounds
pub record IsInitial (g : Geometry) (r : InitialRecord) : Type 0 where
  pub cylinder : r.cylinder < g.cylinders
  pub head : r.head < g.heads
  pub number : 1 ≤ r.number
  pub key : length r.key.items ≤ 255
  pub content : length r.content.items ≤ 65_535
