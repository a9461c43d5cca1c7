-- RUNS of the grammar, by computation: worked scripts, and scripts with a fault.
use Rattle.std.specs.Prelude.{◌≡◌, ℕ, List, [], ◌∷◌, ◌++◌, Ok, Err, codes, false}
use Rattle.std.specs.List.{join_with_byte}
use Rattle.io_area.specs.Storage.{Storage}
use Rattle.io_images.specs.declared.extent.Extent.{Extent}
use Rattle.ckd_disk.specs.declared.mount.Geometry.{Geometry}
use Rattle.job_script.specs.declared.fault.FaultName.{FaultName}
use Rattle.unit_book.specs.declared.dcb.ProcessingMethod.TheVariants.{Output}
use Rattle.job_script.specs.declared.fault.FaultName.TheVariants.{Words, Number, Order, Name, Kind, Area}
use Rattle.job_script.specs.Said.{CommandSaid, Said, UnitSaid, disk, excp, wait}
use Rattle.job_script.specs.Grammar.{script_of}

-- the text of these lines
abbrev pub text_of : List (List ℕ) → List ℕ
text_of ls = join_with_byte 10 ls

-- a script of these lines says this
abbrev pub Says : List (List ℕ) → Said → Type 0
Says ls said = script_of (text_of ls) ≡ Ok said

-- its first fault is this one
abbrev pub Faults : List (List ℕ) → ℕ → FaultName → Type 0
Faults ls line name = script_of (text_of ls) ≡ Err (record { line = line; name = name })

-- a task and a disk of one track
abbrev pub small : List (List ℕ)
small = codes "tasks 1" ∷ codes "disk 0 0 1 1 40" ∷ []

-- a task and a disk of one track with a record of four bytes, a DCB for output, and an area with an IOB, an ECB and a
-- channel program
abbrev pub stored_script : List (List ℕ)
stored_script =
    small ++ codes "rec 0 0 0 1 - C1C2C3C4"
    ∷ codes "open 0 out 18000000000000000000000000000001"
    ∷ (codes "area 0 001000 4200000000001028 0000000000000000 0000103000000001 0000000000000000 0000000000000001 "
    ++ codes "0000000000000000 3100105040000005 0800103000000000 0600106000000004 0000000000000000 0000000001000000 "
    ++ codes "0000000000000000 0000000000000000")
    ∷ []

-- the disk of one track
abbrev pub one_track : Geometry
one_track = record { cylinders = 1; heads = 1; track_bytes = 40 }

-- what the line of the small disk says
abbrev pub small_disk : UnitSaid
small_disk = record { line = 2; isc = 0; medium = disk one_track []; faults = []; openings = [] }

-- what the script with a task and a disk says
abbrev pub small_says : Said
small_says = record { set_up = record { tasks = 1; units = small_disk ∷ []; areas = [] }; commands = [] }

-- the extent of this disk
abbrev pub whole_track : Extent
whole_track =
    record { file_mask = 24; unit_block = 0; bin = 0; start_cylinder = 0; start_head = 0; end_cylinder = 0; end_head = 0; tracks = 1 }

-- the disk, the record and the DCB of the stored script
abbrev pub stored_disk : UnitSaid
stored_disk = record {
  line = 2;
  isc = 0;
  medium = disk one_track (record { cylinder = 0; head = 0; number = 1; key = []; content = 193 ∷ 194 ∷ 195 ∷ 196 ∷ [] } ∷ []);
  faults = [];
  openings = record { line = 4; method = Output; extents = whole_track ∷ [] } ∷ [];
}

-- its area
abbrev pub stored_area : Storage
stored_area = record {
  base = 4096;
  bytes =
      66 ∷ 0 ∷ 0 ∷ 0 ∷ 0 ∷ 0 ∷ 16 ∷ 40
      ∷ 0 ∷ 0 ∷ 0 ∷ 0 ∷ 0 ∷ 0 ∷ 0 ∷ 0
      ∷ 0 ∷ 0 ∷ 16 ∷ 48 ∷ 0 ∷ 0 ∷ 0 ∷ 1
      ∷ 0 ∷ 0 ∷ 0 ∷ 0 ∷ 0 ∷ 0 ∷ 0 ∷ 0
      ∷ 0 ∷ 0 ∷ 0 ∷ 0 ∷ 0 ∷ 0 ∷ 0 ∷ 1
      ∷ 0 ∷ 0 ∷ 0 ∷ 0 ∷ 0 ∷ 0 ∷ 0 ∷ 0
      ∷ 49 ∷ 0 ∷ 16 ∷ 80 ∷ 64 ∷ 0 ∷ 0 ∷ 5
      ∷ 8 ∷ 0 ∷ 16 ∷ 48 ∷ 0 ∷ 0 ∷ 0 ∷ 0
      ∷ 6 ∷ 0 ∷ 16 ∷ 96 ∷ 0 ∷ 0 ∷ 0 ∷ 4
      ∷ 0 ∷ 0 ∷ 0 ∷ 0 ∷ 0 ∷ 0 ∷ 0 ∷ 0
      ∷ 0 ∷ 0 ∷ 0 ∷ 0 ∷ 1 ∷ 0 ∷ 0 ∷ 0
      ∷ 0 ∷ 0 ∷ 0 ∷ 0 ∷ 0 ∷ 0 ∷ 0 ∷ 0
      ∷ 0 ∷ 0 ∷ 0 ∷ 0 ∷ 0 ∷ 0 ∷ 0 ∷ 0 ∷ [];
}

-- the EXCP of the stored script on a line
abbrev pub stored_excp_on : ℕ → CommandSaid
stored_excp_on line = record {
  line = line;
  task = 0;
  action = excp (record { dcb = record { unit = 0; number = 1 }; iob = 4096; area = stored_area; show = 4192; len = 4 });
}

-- WAIT on the line after the first EXCP
abbrev pub wait_on_7 : CommandSaid
wait_on_7 = record { line = 7; task = 0; action = wait }

-- the stored script with these commands
abbrev pub stored_with : List CommandSaid → Said
stored_with commands = record { set_up = record { tasks = 1; units = stored_disk ∷ []; areas = stored_area ∷ [] }; commands = commands }

-- the line of its EXCP
abbrev pub excp_line : List ℕ
excp_line = codes "excp 0 0 1 001000 0 001060 4"

-- the runs
pub record Runs : Type 0 where
  pub empty : Faults [] 0 Order
  pub no_command : Says small small_says
  pub one_request : Says (stored_script ++ excp_line ∷ []) (stored_with (stored_excp_on 6 ∷ []))
  pub two_requests : Says (stored_script ++ excp_line ∷ codes "wait 0" ∷ excp_line ∷ [])
      (stored_with (stored_excp_on 6 ∷ wait_on_7 ∷ stored_excp_on 8 ∷ []))
  pub unknown_dcb : Faults (stored_script ++ codes "excp 0 0 2 001000 0 001060 4" ∷ []) 6 Name
  pub unknown_area : Faults (stored_script ++ codes "excp 0 0 1 001000 1 001060 4" ∷ []) 6 Name
  pub unknown_task : Faults (stored_script ++ codes "excp 1 0 1 001000 0 001060 4" ∷ []) 6 Name
  pub no_task : Faults (codes "disk 0 0 1 1 40" ∷ []) 0 Order
  pub no_unit : Faults (codes "tasks 1" ∷ []) 0 Order
  pub unknown_word : Faults (codes "tasks 1" ∷ codes "disc 0 0 1 1 40" ∷ []) 2 Words
  pub one_word_more : Faults (codes "tasks 1 1" ∷ []) 1 Words
  pub unprintable : Faults ((codes "tasks 1" ++ 9 ∷ []) ∷ []) 1 Words
  pub skipped : Faults ((codes "# a comment" ++ 9 ∷ 200 ∷ []) ∷ codes "  " ∷ []) 0 Order
  pub spaces_and_zeros : Says (codes " tasks  1 " ∷ codes "disk 0 0 1 1 0000000040" ∷ []) small_says
  pub eleven_digits : Faults (small ++ codes "fault 0 00000000001 0E 00 1000" ∷ []) 3 Number
  pub modulo : Faults (small ++ codes "fault 4294967296 1 0E 00 1000" ∷ []) 3 Number
  pub number_first : Faults (small ++ codes "fault 7 1 0G 00 1000" ∷ []) 3 Number
  pub order_first : Faults (small ++ codes "wait 0" ∷ codes "fault 7 1 0E 00 1000" ∷ []) 4 Order
  pub name_last : Faults (small ++ codes "fault 7 1 0E 00 1000" ∷ []) 3 Name
  pub tasks_twice : Faults (codes "tasks 1" ∷ codes "tasks 1" ∷ []) 2 Order
  pub subclass_8 : Faults (codes "disk 0 8 1 1 40" ∷ []) 1 Number
  pub no_tape : Faults (small ++ codes "mark 0" ∷ []) 3 Kind
  pub misaligned : Faults (small ++ codes "area 0 001001" ∷ []) 3 Area
  pub past_top : Faults (small ++ codes "area 0 FFFFF8 0000000000000000 00" ∷ []) 3 Area
  pub odd_digits : Faults (small ++ codes "area 0 001000 000" ∷ []) 3 Number
  pub out_of_sequence : Faults (small ++ codes "area 1 001001" ∷ []) 3 Order
  pub before_tasks : Faults (codes "wait 0" ∷ []) 1 Name
