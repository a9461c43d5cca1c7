-- What the commands of a disk mean on the track under its heads (count-key-data devices, in the profile's choice).
use Rattle.std.specs.Prelude.{ℕ, ◌+◌, List, [], ◌++◌, Bool, Option, Some, None, nat_lt, ◌==◌, ◌&&◌, min, if◌then◌else◌, length, take}
use Rattle.std.specs.Prelude.{nat_eq}
use Rattle.std.specs.List.{starts_with}
use Rattle.io_images.specs.FileMask.{inhibits_writes, inhibits_formatting}
use Rattle.device_port.specs.declared.answer.Acted.{Acted}
use Rattle.device_port.specs.Answers.{normal_end, status_modifier, unit_check, unit_exception, no_operation_ended, sense_bytes, sense_ended}
use Rattle.device_port.specs.Sense.{command_reject, no_record_found, invalid_track_format}
use Rattle.ckd_disk.specs.declared.access.Access.{Access}
use Rattle.ckd_disk.specs.Record.{Record, count_area, packed, size_at, record_written}
use Rattle.ckd_disk.specs.Track.{TrackState, record_of, bytes_before, with_content, with_key_and_content, with_record_behind}
use Rattle.ckd_disk.specs.Access.{Orientation, at_count, at_key, at_end, Armed, unarmed, armed_by_id, armed_by_key, armed_by_format}
use Rattle.ckd_disk.specs.Access.{AccessState, access_of}
use Rattle.ckd_disk.specs.Walk.{Reached, next, next_record, key_record, content_record}

-- what a command answers that leaves the medium as it is: the status, what it leaves for the next command, and
-- the bytes that it gives to the program
pub record Answer : Type 0 where
  pub acted : Acted
  pub access : AccessState
  pub bytes : List ℕ

-- what a command answers that writes on the track
pub record Written : Type 0 where
  pub acted : Acted
  pub access : AccessState
  pub track : TrackState

-- the answer of a command, made of the parts that the code has
abbrev pub answer_of : Acted → Access → List ℕ → Answer
answer_of acted access bytes = record { acted = acted; access = access_of access; bytes = bytes }

-- the result of a write of the code
abbrev pub written_of : Acted → Access → TrackState → Written
written_of acted access track = record { acted = acted; access = access_of access; track = track }

-- every command that is no search leaves no index point counted
abbrev pub left : AccessState → Orientation → Armed → AccessState
left access orientation armed = record { mask = access.mask; orientation = orientation; passes = 0; armed = armed }

-- UNIT CHECK: the heads and the medium stay as they are
abbrev pub checked : ℕ → AccessState → Answer
checked sense access = record { acted = unit_check sense; access = left access access.orientation unarmed; bytes = [] }

-- a write that ends with unit check, and changes nothing on the track
abbrev pub refused : ℕ → TrackState → AccessState → Written
refused sense track access = record { acted = unit_check sense; access = left access access.orientation unarmed; track = track }

-- 03 NO-OPERATION
abbrev pub no_operation : AccessState → Answer
no_operation access = record { acted = no_operation_ended; access = left access access.orientation unarmed; bytes = [] }

-- 04 SENSE
abbrev pub sense : AccessState → Answer
sense access = record { acted = sense_ended; access = left access access.orientation unarmed; bytes = sense_bytes }

-- 1F SET FILE MASK: rejected, since the system has set the mask
abbrev pub set_file_mask : AccessState → Answer
set_file_mask access = checked command_reject access

-- ---- searches

-- the first bytes that a program gives are those of a field, as far as both go
abbrev pub matches : List ℕ → List ℕ → Bool
matches field given = starts_with nat_eq field (take (length field) given)

-- a search has compared: an equal field gives status modifier and arms
abbrev pub searched : AccessState → Reached → Orientation → ℕ → Bool → Armed → Answer
searched access reached orientation want equal armed = record {
  acted = if equal then status_modifier want else normal_end want;
  access = record {
    mask = access.mask;
    orientation = orientation;
    passes = access.passes + reached.passed;
    armed = if equal then armed else unarmed;
  };
  bytes = [];
}

-- 31 SEARCH ID EQUAL: the next count area's CCHHR. The second index point ends the search
abbrev pub search_id_at : TrackState → AccessState → List ℕ → Reached → Answer
search_id_at track access given reached =
    let equal = matches (record_of track.records reached.place).id given in
    if nat_lt (access.passes + reached.passed) 2
    then searched access reached (at_count reached.place) 5 equal (armed_by_id reached.place)
    else checked no_record_found access

-- 31 SEARCH ID EQUAL: compares the identifier of the next record
abbrev pub search_id : TrackState → AccessState → List ℕ → Answer
search_id track access given = search_id_at track access given (next access.orientation (length track.records))

-- 29 SEARCH KEY EQUAL: at least one byte of a key area
abbrev pub search_key_at : TrackState → AccessState → List ℕ → Option Reached → Answer
search_key_at track access given None = checked no_record_found access
search_key_at track access given (Some reached) =
    let key = (record_of track.records reached.place).key in
    let equal = nat_lt 0 (min (length given) (length key)) && matches key given in
    if nat_lt (access.passes + reached.passed) 2
    then searched access reached (at_key reached.place) (length key) equal (armed_by_key reached.place)
    else checked no_record_found access

-- 29 SEARCH KEY EQUAL: compares the key of the record whose count area went by, else of the next one but R0
abbrev pub search_key : TrackState → AccessState → List ℕ → Answer
search_key track access given = search_key_at track access given (key_record access.orientation (length track.records))

-- ---- reads

-- 12 READ COUNT: all bytes of the count area, which are 8
abbrev pub read_count_at : TrackState → AccessState → Option Reached → Answer
read_count_at track access None = checked no_record_found access
read_count_at track access (Some reached) =
    let bytes = count_area (record_of track.records reached.place) in
    record { acted = normal_end (length bytes); access = left access (at_count reached.place) unarmed; bytes = bytes }

-- 12 READ COUNT: gives the count area of the next record but R0
abbrev pub read_count : TrackState → AccessState → Answer
read_count track access = read_count_at track access (next_record access.orientation (length track.records))

-- a read of bytes up to the end of a record: unit exception where its data area is empty
abbrev pub part_read : AccessState → ℕ → Record → List ℕ → Answer
part_read access place r bytes = record {
  acted = if length r.content == 0 then unit_exception (length bytes) else normal_end (length bytes);
  access = left access (at_end place) unarmed;
  bytes = bytes;
}

-- a read of one part of the record that it reaches
abbrev pub read_part : (Record → List ℕ) → TrackState → AccessState → Option Reached → Answer
read_part part track access None = checked no_record_found access
read_part part track access (Some reached) =
    let r = record_of track.records reached.place in
    part_read access reached.place r (part r)

-- 06 READ DATA
abbrev pub read_data : TrackState → AccessState → Answer
read_data track access = read_part (λ r. r.content) track access (content_record access.orientation (length track.records))

-- 0E READ KEY AND DATA
abbrev pub read_key_and_data : TrackState → AccessState → Answer
read_key_and_data track access = read_part (λ r. r.key ++ r.content) track access (key_record access.orientation (length track.records))

-- 1E READ COUNT, KEY AND DATA
abbrev pub read_count_key_and_data : TrackState → AccessState → Answer
read_count_key_and_data track access = read_part packed track access (next_record access.orientation (length track.records))

-- ---- writes

-- the record that may be written, or after which a record may be written
abbrev pub armed_for_data : Armed → Option ℕ
armed_for_data unarmed = None
armed_for_data (armed_by_id place) = Some place
armed_for_data (armed_by_key place) = Some place
armed_for_data (armed_by_format place) = None

-- 0D writes the record that a SEARCH ID matched
abbrev pub armed_for_key_and_data : Armed → Option ℕ
armed_for_key_and_data unarmed = None
armed_for_key_and_data (armed_by_id place) = Some place
armed_for_key_and_data (armed_by_key place) = None
armed_for_key_and_data (armed_by_format place) = None

-- 1D writes after the record that a search matched, or that a 1D wrote
abbrev pub armed_for_format : Armed → Option ℕ
armed_for_format unarmed = None
armed_for_format (armed_by_id place) = Some place
armed_for_format (armed_by_key place) = Some place
armed_for_format (armed_by_format place) = Some place

-- 05 WRITE DATA: the lengths stay; unit exception where the data area is empty
abbrev pub write_data_at : TrackState → AccessState → List ℕ → Option ℕ → Written
write_data_at track access given None = refused command_reject track access
write_data_at track access given (Some place) =
    let len = length (record_of track.records place).content in
    record {
      acted = if len == 0 then unit_exception 0 else normal_end len;
      access = left access (at_end place) unarmed;
      track = with_content track place given;
    }

-- 05 WRITE DATA, if the file mask allows writes
abbrev pub write_data : TrackState → AccessState → List ℕ → Written
write_data track access given =
    if inhibits_writes access.mask then refused command_reject track access
    else write_data_at track access given (armed_for_data access.armed)

-- 0D WRITE KEY AND DATA: the lengths stay
abbrev pub write_key_and_data_at : TrackState → AccessState → List ℕ → Option ℕ → Written
write_key_and_data_at track access given None = refused command_reject track access
write_key_and_data_at track access given (Some place) =
    let r = record_of track.records place in
    record {
      acted = normal_end (length r.key + length r.content);
      access = left access (at_end place) unarmed;
      track = with_key_and_content track place given;
    }

-- 0D WRITE KEY AND DATA, if the file mask allows writes
abbrev pub write_key_and_data : TrackState → AccessState → List ℕ → Written
write_key_and_data track access given =
    if inhibits_writes access.mask then refused command_reject track access
    else write_key_and_data_at track access given (armed_for_key_and_data access.armed)

-- 1D WRITE COUNT, KEY AND DATA: a new record after a position, and none after it
abbrev pub write_count_key_and_data_at : TrackState → AccessState → List ℕ → Option ℕ → Written
write_count_key_and_data_at track access given None = refused command_reject track access
write_count_key_and_data_at track access given (Some place) =
    if nat_lt (length given) 8 then refused command_reject track access
    else if nat_lt track.size (bytes_before track.records (place + 1) + size_at given) then refused invalid_track_format track access
    else record {
      acted = normal_end (size_at given);
      access = left access (at_end (place + 1)) (armed_by_format (place + 1));
      track = with_record_behind track place (record_written given);
    }

-- 1D WRITE COUNT, KEY AND DATA, if the file mask allows formatting writes
abbrev pub write_count_key_and_data : TrackState → AccessState → List ℕ → Written
write_count_key_and_data track access given =
    if inhibits_formatting access.mask then refused command_reject track access
    else write_count_key_and_data_at track access given (armed_for_format access.armed)
