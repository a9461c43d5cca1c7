-- Worked rows, by computation: the definitions against one disk of one track with R0 and R1.
use Rattle.std.proofs.Common.{◌≡◌, ℕ, List, [], ◌∷◌, refl}
use Rattle.device_port.specs.declared.faults.Fault.{Fault}
use Rattle.device_port.specs.Answers.{normal_end, status_modifier, unit_check, unit_exception}
use Rattle.device_port.specs.Meaning.{Outcome}
use Rattle.ckd_disk.specs.Record.{record_at}
use Rattle.ckd_disk.specs.Track.{bytes_of}
use Rattle.ckd_disk.specs.Mount.{track_descriptor, id_on}
use Rattle.ckd_disk.specs.Disk.{DiskState, at_start, current_track, act}

-- a track of 40 bytes, R1 with this key and data area, and a file mask
abbrev fixture : List ℕ → List ℕ → ℕ → List Fault → DiskState
fixture key content mask faults = record {
  cylinders = 1;
  heads = 1;
  tracks = record { size = 40; records = track_descriptor 0 0 ∷ record { id = id_on 0 0 1; key = key; content = content } ∷ [] } ∷ [];
  track = 0;
  access = at_start mask;
  ordinals = record { script = faults; done = 0 };
}

abbrev four : List ℕ
four = 0xC1 ∷ 0xC2 ∷ 0xC3 ∷ 0xC4 ∷ []

-- a search that has found R1
abbrev found : DiskState → Outcome DiskState
found disk = act (act disk 0x31 (id_on 0 0 1)).device 0x31 (id_on 0 0 1)

reads_one_record : ((act (fixture [] four 0x18 []) 0x31 (id_on 0 0 1)).acted ≡ normal_end 5)
    × ((found (fixture [] four 0x18 [])).acted ≡ status_modifier 5)
    × ((act (found (fixture [] four 0x18 [])).device 0x06 []).acted ≡ normal_end 4)
    × ((act (found (fixture [] four 0x18 [])).device 0x06 []).bytes ≡ four)
reads_one_record = (refl, refl, refl, refl)

no_record_found :
    let one = act (fixture [] four 0x18 []) 0x31 (id_on 0 0 9) in
    let two = act one.device 0x31 (id_on 0 0 9) in
    let three = act two.device 0x31 (id_on 0 0 9) in
    let four_ = act three.device 0x31 (id_on 0 0 9) in
    (four_.acted ≡ normal_end 5) × ((act four_.device 0x31 (id_on 0 0 9)).acted ≡ unit_check 0x0008)
no_record_found = (refl, refl)

short_search_argument : (act (fixture [] four 0x18 []) 0x31 (id_on 0 0 0)).acted ≡ status_modifier 5
short_search_argument = refl

input_dcb_inhibits_writes : (act (found (fixture [] four 0x58 [])).device 0x05 four).acted ≡ unit_check 0x8000
input_dcb_inhibits_writes = refl

empty_data_is_unit_exception : (act (found (fixture [] [] 0x18 [])).device 0x06 []).acted ≡ unit_exception 0
empty_data_is_unit_exception = refl

seek_is_file_protected : (act (fixture [] four 0x18 []) 0x07 (0 ∷ 0 ∷ 0 ∷ 0 ∷ 0 ∷ 0 ∷ [])).acted ≡ unit_check 0x0004
seek_is_file_protected = refl

-- thirteen bytes do not fit behind R1, twelve do: the track is full
abbrev formatted : List ℕ → Outcome DiskState
formatted bytes = act (found (fixture [] four 0x18 [])).device 0x1D bytes

formatting_write_fits_track :
    ((formatted (0 ∷ 0 ∷ 0 ∷ 0 ∷ 2 ∷ 0 ∷ 0 ∷ 5 ∷ 1 ∷ 2 ∷ 3 ∷ 4 ∷ 5 ∷ [])).acted ≡ unit_check 0x0040)
    × ((formatted (0 ∷ 0 ∷ 0 ∷ 0 ∷ 2 ∷ 0 ∷ 0 ∷ 4 ∷ 1 ∷ 2 ∷ 3 ∷ 4 ∷ [])).acted ≡ normal_end 12)
    × (bytes_of (current_track (formatted (0 ∷ 0 ∷ 0 ∷ 0 ∷ 2 ∷ 0 ∷ 0 ∷ 4 ∷ 1 ∷ 2 ∷ 3 ∷ 4 ∷ [])).device).records ≡ 40)
unfolding record_at
formatting_write_fits_track = (refl, refl, refl)

-- the whole disk: R1 with key D1 D2
abbrev keyed : DiskState
keyed = fixture (0xD1 ∷ 0xD2 ∷ []) four 0x18 []

reads_key_and_data : (act (found keyed).device 0x0E []).bytes ≡ 0xD1 ∷ 0xD2 ∷ four
reads_key_and_data = refl

searches_a_key : ((act keyed 0x29 (0xD1 ∷ 0xD2 ∷ [])).acted ≡ status_modifier 2)
    × ((act (act keyed 0x29 (0xD1 ∷ 0xD2 ∷ [])).device 0x06 []).bytes ≡ four)
searches_a_key = (refl, refl)

reads_count : (act keyed 0x12 []).bytes ≡ 0 ∷ 0 ∷ 0 ∷ 0 ∷ 1 ∷ 2 ∷ 0 ∷ 4 ∷ []
reads_count = refl

reads_all : ((act keyed 0x1E []).acted ≡ normal_end 14) × ((act keyed 0x1E []).bytes ≡ 0 ∷ 0 ∷ 0 ∷ 0 ∷ 1 ∷ 2 ∷ 0 ∷ 4 ∷ 0xD1 ∷ 0xD2 ∷ four)
reads_all = (refl, refl)

-- a fault at the first command, and none at the second
abbrev check_at_first : Fault
check_at_first = record { ordinal = 1; unit = record { 0 = 0x0E }; sub = record { 0 = 0 }; sense = 0x1000 }

meets_a_fault :
    let met = act (fixture [] four 0x18 (check_at_first ∷ [])) 0x31 (id_on 0 0 1) in
    (met.acted ≡ unit_check 0x1000) × ((act met.device 0x31 (id_on 0 0 1)).acted ≡ normal_end 5)
meets_a_fault = (refl, refl)
