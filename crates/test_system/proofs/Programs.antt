-- Worked channel programs on a disk of one track with one record, C1C2C3C4, computed by the definitions: a search
-- of the record's ID, a transfer back to it, and a command, from X'1030'; the search argument stands at X'1050' and the
-- buffer at X'1060'.
use Rattle.std.proofs.Common.{◌≡◌, ℕ, ◌/◌, ◌%◌, List, [], ◌∷◌, ◌++◌, replicate, refl}
use Rattle.io_area.specs.Storage.{Storage, bytes_at}
use Rattle.device_port.specs.declared.faults.Fault.{Fault}
use Rattle.ccw_programs.specs.declared.context.State.{State}
use Rattle.ccw_programs.specs.declared.context.State.TheVariants.{Ended}
use Rattle.ccw_programs.specs.Areas.{parts_from}
use Rattle.ccw_programs.specs.Links.{chain_within}
use Rattle.ccw_programs.specs.Step.{Program, begun, step, after, steps_within, length_of}
use Rattle.ckd_disk.specs.Disk.{DiskState, disk, prefix, at_start}

-- a disk of one track of 40 bytes with R0 and one record, and a fault script
abbrev disk_of : List ℕ → List Fault → DiskState
disk_of content script = record {
  cylinders = 1;
  heads = 1;
  tracks = record {
    size = 40;
    records = record { id = replicate 5 0; key = []; content = replicate 8 0 }
        ∷ record { id = 0 ∷ 0 ∷ 0 ∷ 0 ∷ 1 ∷ []; key = []; content = content } ∷ [];
  } ∷ [];
  track = 0;
  access = at_start 0;
  ordinals = record { script = script; done = 0 };
}

abbrev data_bytes : List ℕ
data_bytes = 0xC1 ∷ 0xC2 ∷ 0xC3 ∷ 0xC4 ∷ []

-- a CCW: command, address, flags, count
abbrev ccw : ℕ → ℕ → ℕ → ℕ → List ℕ
ccw command address flags count = command ∷ 0 ∷ address / 256 ∷ address % 256 ∷ flags ∷ 0 ∷ count / 256 ∷ count % 256 ∷ []

-- storage from X'1000' with four CCWs at X'1030' and 24 bytes at X'1050'
abbrev storage : List ℕ → List ℕ → Storage
storage program argument = record { base = 0x1000; bytes = replicate 48 0 ++ program ++ argument }

-- search ID equal of the argument, and back until it is found
abbrev search : List ℕ
search = ccw 0x31 0x1050 0x40 5 ++ ccw 0x08 0x1030 0 0

abbrev record_number : ℕ → List ℕ
record_number number = 0 ∷ 0 ∷ 0 ∷ 0 ∷ number ∷ replicate 19 0

-- an attempt under a file mask
abbrev attempt : DiskState → ℕ → List ℕ → List ℕ → Program DiskState
attempt d mask program argument =
    begun 0x1030 (prefix d (record { extent = 0; bin = 0; cylinder = 0; head = 0; «record» = 0 }) mask) (storage program argument)

-- what the whole program leaves
abbrev whole : Program DiskState → Program DiskState
whole p = after disk (length_of disk p) p

-- the program of search, transfer and up to two more CCWs on the record with data C1C2C3C4
abbrev behind_search : List ℕ → List ℕ → Program DiskState
behind_search first second = whole (attempt (disk_of data_bytes []) 0x18 (search ++ first ++ second) (record_number 1))

abbrev alone : List ℕ → List ℕ → Program DiskState
alone program argument = whole (attempt (disk_of data_bytes []) 0x18 (program ++ replicate 24 0) argument)

abbrev buffer : Program DiskState → List ℕ
buffer p = bytes_at p.area 0x1060 4

abbrev status : ℕ → ℕ → ℕ → ℕ → ℕ → State
status address unit sub residual sense =
    Ended (record { address = address; unit = record { 0 = unit }; sub = record { 0 = sub }; residual = residual }) sense

abbrev none : List ℕ
none = replicate 8 0

reads_one_record : (behind_search (ccw 0x06 0x1060 0 4) none).place.state ≡ status 0x1048 0x0C 0 0 0
unfolding after step steps_within chain_within parts_from
reads_one_record = refl

reads_its_bytes : buffer (behind_search (ccw 0x06 0x1060 0 4) none) ≡ data_bytes
unfolding after step steps_within chain_within parts_from
reads_its_bytes = refl

incorrect_length : (behind_search (ccw 0x06 0x1060 0 8) none).place.state ≡ status 0x1048 0x0C 0x40 4 0
unfolding after step steps_within chain_within parts_from
incorrect_length = refl

incorrect_length_is_suppressed : (behind_search (ccw 0x06 0x1060 0x20 8) none).place.state ≡ status 0x1048 0x0C 0 4 0
unfolding after step steps_within chain_within parts_from
incorrect_length_is_suppressed = refl

no_record_found : (whole (attempt (disk_of data_bytes []) 0x18 (search ++ ccw 0x06 0x1060 0 4 ++ none) (record_number 9))).place.state ≡
    status 0x1038 0x0E 0 5 8
unfolding after step steps_within chain_within parts_from
no_record_found = refl

data_chain_ends_where_used_up : (behind_search (ccw 0x06 0x1060 0x80 2) (ccw 0 0x1062 0 2)).place.state ≡ status 0x1050 0x0C 0 0 0
unfolding after step steps_within chain_within parts_from
data_chain_ends_where_used_up = refl

data_chain_is_too_long : (behind_search (ccw 0x06 0x1060 0xA0 2) (ccw 0 0x1062 0 6)).place.state ≡ status 0x1050 0x0C 0x40 4 0
unfolding after step steps_within chain_within parts_from
data_chain_is_too_long = refl

transfer_first_is_refused : (alone (ccw 0x08 0x1038 0 0) none).place.state ≡ status 0x1038 0 0x20 0 0
unfolding after step steps_within chain_within parts_from
transfer_first_is_refused = refl

chain_data_shows_length : (behind_search (ccw 0x06 0x1060 0xA0 8) (ccw 0 0x1060 0 1)).place.state ≡ status 0x1048 0x0C 0x40 4 0
unfolding after step steps_within chain_within parts_from
chain_data_shows_length = refl

short_search_argument : (alone (ccw 0x31 0x1050 0 5) (record_number 0)).place.state ≡ status 0x1038 0x4C 0 0 0
unfolding after step steps_within chain_within parts_from
short_search_argument = refl

empty_data_is_unit_exception : (whole (attempt (disk_of [] []) 0x18 (search ++ ccw 0x06 0x1060 0 4 ++ none) (record_number 1))).place.state
    ≡ status 0x1048 0x0D 0 4 0
unfolding after step steps_within chain_within parts_from
empty_data_is_unit_exception = refl

seek_is_file_protected : (alone (ccw 0x07 0x1050 0 6) (record_number 0)).place.state ≡ status 0x1038 0x0E 0 6 4
unfolding after step steps_within chain_within parts_from
seek_is_file_protected = refl

input_dcb_inhibits_writes :
    (whole (attempt (disk_of data_bytes []) 0x58 (search ++ ccw 0x05 0x1060 0 4 ++ none) (record_number 1))).place.state ≡ status 0x1048
    0x0E 0 4 0x8000
unfolding after step steps_within chain_within parts_from
input_dcb_inhibits_writes = refl

skip_leaves_storage : buffer (behind_search (ccw 0x06 0x1060 0x90 2) (ccw 0 0x1062 0 2)) ≡ 0 ∷ 0 ∷ 0xC3 ∷ 0xC4 ∷ []
unfolding after step steps_within chain_within parts_from
skip_leaves_storage = refl

words_of_an_address_list :
    (whole (attempt (disk_of data_bytes []) 0x18 (search ++ ccw 0x06 0x1058 4 4 ++ none)
    (0 ∷ 0 ∷ 0 ∷ 0 ∷ 1 ∷ 0 ∷ 0 ∷ 0 ∷ 0 ∷ 0 ∷ 0x10 ∷ 0x60 ∷ replicate 12 0))).place.state ≡ status 0x1048 0x0C 0 0 0
unfolding after step steps_within chain_within parts_from
words_of_an_address_list = refl

overwrites_its_next_command : (behind_search (ccw 0x06 0x1048 0x40 4) (ccw 0 0 0 1)).place.state ≡ status 0x1050 0x0E 0 1 0x8000
unfolding after step steps_within chain_within parts_from
overwrites_its_next_command = refl

-- a program that never ends by itself: no-operation and a transfer back, up to the fetch limit
fetch_limit_ends_a_loop : length_of disk
    (attempt (disk_of data_bytes []) 0x18 (ccw 0x03 0 0x60 1 ++ ccw 0x08 0x1030 0 0 ++ replicate 16 0) (record_number 0)) ≡ 2049
unfolding steps_within step chain_within parts_from
fetch_limit_ends_a_loop = refl
