-- What is wrong with a disk that is not mounted.
use Rattle.std.specs.Prelude.{◌≡◌, ◌*◌, ◌<◌, ◌≤◌, ◌⊎◌, length}
use Rattle.ckd_disk.specs.declared.mount.Geometry.{Geometry}
use Rattle.ckd_disk.specs.declared.mount.InitialRecord.{InitialRecord}
use Rattle.ckd_disk.specs.declared.mount.refusal.GeometryRefusal.{GeometryRefusal}
use Rattle.ckd_disk.specs.declared.mount.refusal.GeometryRefusal.TheVariants.{Cylinders, Heads, Tracks, TrackBytes, Bytes}
use Rattle.ckd_disk.specs.declared.mount.refusal.RecordRefusal.{RecordRefusal}
use Rattle.ckd_disk.specs.declared.mount.refusal.RecordRefusal.TheVariants.{Cylinder, Head, Number, Key, Content}
use Rattle.ckd_disk.specs.Mount.{track_count}

-- this number of a geometry is outside its range
abbrev pub GeometryFails : Geometry → GeometryRefusal → Type 0
GeometryFails g Cylinders = g.cylinders ≡ 0
GeometryFails g Heads = g.heads ≡ 0
GeometryFails g Tracks = 65_535 < track_count g
GeometryFails g TrackBytes = (g.track_bytes < 16) ⊎ (65_535 < g.track_bytes)
GeometryFails g Bytes = 16_777_216 < track_count g * g.track_bytes

-- this part of a record is refused
abbrev pub RecordFails : Geometry → InitialRecord → RecordRefusal → Type 0
RecordFails g r Cylinder = g.cylinders ≤ r.cylinder
RecordFails g r Head = g.heads ≤ r.head
RecordFails g r Number = r.number ≡ 0
RecordFails g r Key = 255 < length r.key.items
RecordFails g r Content = 65_535 < length r.content.items
