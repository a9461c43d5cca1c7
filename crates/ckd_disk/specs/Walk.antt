-- Which record comes under the heads next. Places count records, R0 is 0; a track has R0 at least.
use Rattle.std.specs.Prelude.{ℕ, ◌+◌, Option, Some, None, nat_lt, if◌then◌else◌}
use Rattle.ckd_disk.specs.declared.walk.Reached.{Reached as CodeReached}
use Rattle.ckd_disk.specs.Access.{Orientation, at_index, at_count, at_key, at_end}

-- the record at which a walk ends, and the number of index points that it passes
pub record Reached : Type 0 where
  pub place : ℕ
  pub passed : ℕ

-- the record that a walk of the code reached
abbrev pub reached_of : CodeReached → Reached
reached_of r = record { place = r.spot.place; passed = r.passed }

-- the record that went by last, the heads standing in it or at its end
abbrev pub gone_by : Orientation → Option ℕ
gone_by at_index = None
gone_by (at_count place) = Some place
gone_by (at_key place) = Some place
gone_by (at_end place) = Some place

-- NEXT: the record after the one that went by. After the last one the index point goes by, and R0 comes next
abbrev pub next_behind : Option ℕ → ℕ → Reached
next_behind None count = record { place = 0; passed = 0 }
next_behind (Some place) count = if nat_lt (place + 1) count then record { place = place + 1; passed = 0 }
    else record { place = 0; passed = 1 }

-- the next record, from an orientation
abbrev pub next : Orientation → ℕ → Reached
next orientation count = next_behind (gone_by orientation) count

-- NEXT EXCLUDING R0: the next record that is not R0, which goes by too. There is none if the track has only R0
abbrev pub next_record_behind : Option ℕ → ℕ → Option Reached
next_record_behind None count = if nat_lt 1 count then Some (record { place = 1; passed = 0 }) else None
next_record_behind (Some place) count =
    if nat_lt (place + 1) count then Some (record { place = place + 1; passed = 0 })
    else if nat_lt 1 count then Some (record { place = 1; passed = 1 })
    else None

-- the next record but R0, from an orientation
abbrev pub next_record : Orientation → ℕ → Option Reached
next_record orientation count = next_record_behind (gone_by orientation) count

-- a record whose count area has just gone by
abbrev pub here : ℕ → Option Reached
here place = Some (record { place = place; passed = 0 })

-- WHERE A KEY AREA IS TAKEN: at the record whose count area went by, else at the next one excluding R0
abbrev pub key_record : Orientation → ℕ → Option Reached
key_record at_index count = next_record_behind None count
key_record (at_count place) count = here place
key_record (at_key place) count = next_record_behind (Some place) count
key_record (at_end place) count = next_record_behind (Some place) count

-- WHERE A DATA AREA IS TAKEN: at the record whose count or key area went by, else at the next one excluding R0
abbrev pub content_record : Orientation → ℕ → Option Reached
content_record at_index count = next_record_behind None count
content_record (at_count place) count = here place
content_record (at_key place) count = here place
content_record (at_end place) count = next_record_behind (Some place) count
