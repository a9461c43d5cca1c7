-- Which disks can be mounted, and what is on them then (profile).
use Rattle.std.specs.Prelude.{◌≡◌, ℕ, ◌*◌, ◌/◌, ◌%◌, Bool, true, false, nat_lt, nat_le, ◌&&◌, List, [], ◌∷◌, ◌++◌, Result, Ok, Err, length}
use Rattle.std.specs.Prelude.{map, filter, replicate, ◌==◌, if◌then◌else◌}
use Rattle.std.specs.Int.{w16, to_be_bytes}
use Rattle.std.specs.List.{range_with_len, list_all}
use Rattle.device_port.specs.declared.device.MountError.{MountError}
use Rattle.device_port.specs.declared.device.MountError.TheVariants.{BadGeometry, BadMedium, NoMemory}
use Rattle.device_port.specs.declared.faults.Fault.{Fault}
use Rattle.device_port.specs.Faults.{is_script}
use Rattle.ckd_disk.specs.declared.mount.Geometry.{Geometry}
use Rattle.ckd_disk.specs.declared.mount.InitialRecord.{InitialRecord}
use Rattle.ckd_disk.specs.Record.{Record, size_of}
use Rattle.ckd_disk.specs.Track.{TrackState, bytes_of}
use Rattle.ckd_disk.specs.Disk.{DiskState, track_number, at_start}

-- how many tracks the disk has
abbrev pub track_count : Geometry → ℕ
track_count g = g.cylinders * g.heads

-- A GEOMETRY: at least a cylinder and a head, at most 65,535 tracks of 16 to 65,535 bytes, at most 16,777,216
-- bytes in all
abbrev pub is_geometry : Geometry → Bool
is_geometry g =
    nat_le 1 g.cylinders && nat_le 1 g.heads && nat_le (track_count g) 65_535
    && nat_le 16 g.track_bytes && nat_le g.track_bytes 65_535
    && nat_le (track_count g * g.track_bytes) 16_777_216

-- CCHHR: cylinder, head and record number
abbrev pub id_on : ℕ → ℕ → ℕ → List ℕ
id_on cylinder head number = to_be_bytes w16 cylinder ++ (to_be_bytes w16 head ++ number ∷ [])

-- R0: the first record of each track, without a key and with eight bytes of zeros
abbrev pub track_descriptor : ℕ → ℕ → Record
track_descriptor cylinder head = record { id = id_on cylinder head 0; key = []; content = replicate 8 0 }

-- a record that is handed in, as it is on its track
abbrev pub initial : InitialRecord → Record
initial r = record { id = id_on r.cylinder r.head r.number; key = r.key.items; content = r.content.items }

-- the number of the track of a record
abbrev pub track_of_initial : Geometry → InitialRecord → ℕ
track_of_initial g r = track_number g.heads r.cylinder r.head

-- THE FIRST RECORDS OF A TRACK: R0, and then the records handed in for the track, in their order
abbrev pub stands_on : Geometry → ℕ → InitialRecord → Bool
stands_on g track r = track_of_initial g r == track

-- how many bytes a record takes of a track
abbrev pub bytes_on : Geometry → ℕ → InitialRecord → ℕ
bytes_on g track r = if stands_on g track r then size_of (initial r) else 0

-- the records of a track just after mounting: R0, and then its records in order
abbrev pub opening_records : Geometry → List InitialRecord → ℕ → List Record
opening_records g records track = track_descriptor (track / g.heads) (track % g.heads) ∷ map initial (filter (stands_on g track) records)

-- a record lies in the geometry, is not R0, and its lengths fit a count area
abbrev pub is_initial : Geometry → InitialRecord → Bool
is_initial g r =
    nat_lt r.cylinder g.cylinders && nat_lt r.head g.heads && nat_le 1 r.number
    && nat_le (length r.key.items) 255 && nat_le (length r.content.items) 65_535

-- the records of a record's track fit the track
abbrev pub has_room : Geometry → List InitialRecord → InitialRecord → Bool
has_room g records r = nat_le (bytes_of (opening_records g records (track_of_initial g r))) g.track_bytes

-- A MEDIUM: such records, on tracks that have room, and a fault script
abbrev pub is_medium : Geometry → List InitialRecord → List Fault → Bool
is_medium g records faults = is_script faults && list_all (is_initial g) records && list_all (has_room g records) records

-- THE OPENING STATE: the heads at the index point of track 0, file mask 00
abbrev pub opening_track : Geometry → List InitialRecord → ℕ → TrackState
opening_track g records track = record { size = g.track_bytes; records = opening_records g records track }

-- all tracks just after mounting
abbrev pub opening_tracks : Geometry → List InitialRecord → List TrackState
opening_tracks g records = map (opening_track g records) (range_with_len 0 (track_count g))

-- the disk just after mounting: the heads are at track 0, at the index point
abbrev pub opening : Geometry → List InitialRecord → List Fault → DiskState
opening g records faults = record {
  cylinders = g.cylinders;
  heads = g.heads;
  tracks = opening_tracks g records;
  track = 0;
  access = at_start 0;
  ordinals = record { script = faults; done = 0 };
}

-- WHAT MOUNTING ANSWERS: the disk, or the first reason that holds
abbrev pub Mounts : Geometry → List InitialRecord → List Fault → Result DiskState MountError → Type 0
Mounts g records faults (Ok disk) = (is_geometry g ≡ true) × (is_medium g records faults ≡ true) × (disk ≡ opening g records faults)
Mounts g records faults (Err BadGeometry) = is_geometry g ≡ false
Mounts g records faults (Err BadMedium) = (is_geometry g ≡ true) × (is_medium g records faults ≡ false)
Mounts g records faults (Err NoMemory) = (is_geometry g ≡ true) × (is_medium g records faults ≡ true)
