-- The extents of a DCB (DFSMSdfp Advanced Services, "Data Extent Block Fields"): which ones may be opened,
-- and which seek addresses lie in them.
use Rattle.std.specs.Prelude.{ℕ, ◌+◌, ◌-◌, ◌*◌, ◌==◌, nat_lt, nat_le, Bool, true, false, ◌&&◌, Option, Some, None, List, length, slice_get}
use Rattle.std.specs.List.{list_all}
use Rattle.io_images.specs.declared.extent.Extent.{Extent}
use Rattle.io_images.specs.declared.seek.Seek.{Seek}
use Rattle.device_port.specs.declared.kind.Kind.{Kind}
use Rattle.device_port.specs.declared.kind.Kind.TheVariants.{Disk, Tape, Printer}

-- the number of a track, from 0, if a cylinder has `heads` heads
abbrev pub track : ℕ → ℕ → ℕ → ℕ
track heads cylinder head = cylinder * heads + head

-- the numbers of the first and of the last track of an extent
abbrev pub first_track : ℕ → Extent → ℕ
first_track heads e = track heads e.start_cylinder e.start_head

abbrev pub last_track : ℕ → Extent → ℕ
last_track heads e = track heads e.end_cylinder e.end_head

-- both ends lie inside the geometry
abbrev pub is_inside : ℕ → ℕ → Extent → Bool
is_inside cylinders heads e =
    nat_lt e.start_cylinder cylinders && nat_lt e.start_head heads
    && nat_lt e.end_cylinder cylinders && nat_lt e.end_head heads

-- the start is not after the end, and the number of tracks is theirs
abbrev pub counts_tracks : ℕ → Extent → Bool
counts_tracks heads e =
    nat_le (first_track heads e) (last_track heads e)
    && (e.tracks == last_track heads e - first_track heads e + 1)

abbrev pub is_extent : ℕ → ℕ → Extent → Bool
is_extent cylinders heads e = is_inside cylinders heads e && counts_tracks heads e

-- THE EXTENTS THAT MAY BE OPENED: on a disk 1 to 16 inside the geometry, elsewhere none
abbrev pub takes_extents : Kind → ℕ → ℕ → List Extent → Bool
takes_extents Disk cylinders heads extents =
    nat_le 1 (length extents) && nat_le (length extents) 16
    && list_all (is_extent cylinders heads) extents
takes_extents Tape cylinders heads extents = length extents == 0
takes_extents Printer cylinders heads extents = length extents == 0

-- the track of a seek address lies in the extent
abbrev pub lies_within : ℕ → Seek → Option Extent → Bool
lies_within heads seek None = false
lies_within heads seek (Some e) =
    nat_le (first_track heads e) (track heads seek.cylinder seek.head)
    && nat_le (track heads seek.cylinder seek.head) (last_track heads e)

-- THE EXTENT CHECK of a first start: on a disk M is the number of an extent, from 0, BB is 0, HH is a head,
-- and the track lies in extent M (profile)
abbrev pub passes_check : Kind → ℕ → List Extent → Seek → Bool
passes_check Disk heads extents seek =
    (seek.bin == 0) && nat_lt seek.head heads && lies_within heads seek (slice_get extents seek.extent)
passes_check Tape heads extents seek = true
passes_check Printer heads extents seek = true
