-- The position of the heads on a track, and what a command leaves for the next one. Places count records, R0 is 0.
use Rattle.std.specs.Prelude.{ℕ, ◌<◌, List, length, ⊤}
use Rattle.ckd_disk.specs.declared.access.Orientation.{Orientation as CodeOrientation}
use Rattle.ckd_disk.specs.declared.access.Orientation.TheVariants as at
use Rattle.ckd_disk.specs.declared.access.Armed.{Armed as CodeArmed}
use Rattle.ckd_disk.specs.declared.access.Armed.TheVariants as by
use Rattle.ckd_disk.specs.declared.access.Access.{Access}
use Rattle.ckd_disk.specs.Track.{TrackState, IsSpot}
use Rattle.ckd_disk.specs.Record.{Record}

-- ORIENTATION: at the index point, or after the count area, the key area or the end of the record at a position
-- (count-key-data devices)
pub data Orientation : Type 0 where
  at_index : Orientation
  at_count : ℕ → Orientation
  at_key : ℕ → Orientation
  at_end : ℕ → Orientation

-- ARMED: whether the command before lets the next one write, and after which record: a search of its CCHHR or of its
-- key that was equal, or a record just formatted (count-key-data devices)
pub data Armed : Type 0 where
  unarmed : Armed
  armed_by_id : ℕ → Armed
  armed_by_key : ℕ → Armed
  armed_by_format : ℕ → Armed

-- what commands leave for the next one beside the medium: the file mask, the orientation, the index points
-- that searches have gone by, and the arming
pub record AccessState : Type 0 where
  pub mask : ℕ
  pub orientation : Orientation
  pub passes : ℕ
  pub armed : Armed

-- the positions of the code's spots
abbrev pub orientation_of : CodeOrientation → Orientation
orientation_of at.Index = at_index
orientation_of (at.Count spot) = at_count spot.place
orientation_of (at.Key spot) = at_key spot.place
orientation_of (at.End spot) = at_end spot.place

-- the armed state of the code, without the offsets of its spots
abbrev pub armed_of : CodeArmed → Armed
armed_of by.No = unarmed
armed_of (by.Id spot) = armed_by_id spot.place
armed_of (by.Key spot) = armed_by_key spot.place
armed_of (by.Format spot) = armed_by_format spot.place

-- the access state of the code, as definitions see it
abbrev pub access_of : Access → AccessState
access_of a = record { mask = a.mask.0; orientation = orientation_of a.orientation; passes = a.passes; armed = armed_of a.armed }

-- the spots are on the track
abbrev pub IsOriented : CodeOrientation → List Record → Type 0
IsOriented at.Index records = ⊤
IsOriented (at.Count spot) records = IsSpot records spot
IsOriented (at.Key spot) records = IsSpot records spot
IsOriented (at.End spot) records = IsSpot records spot

-- the spot that arms the access is on this track
abbrev pub IsArmedOn : CodeArmed → List Record → Type 0
IsArmedOn by.No records = ⊤
IsArmedOn (by.Id spot) records = IsSpot records spot
IsArmedOn (by.Key spot) records = IsSpot records spot
IsArmedOn (by.Format spot) records = IsSpot records spot

-- the access is on this track: it has a record, and each spot of the access is on it
pub record IsPlaced (access : Access) (track : TrackState) : Type 0 where
  pub some : 0 < length track.records
  pub oriented : IsOriented access.orientation track.records
  pub armed : IsArmedOn access.armed track.records
