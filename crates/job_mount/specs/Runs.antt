-- RUNS of mounting, by computation: scripts whose units, DCBs and requests are made, and scripts with a fault of these.
use Rattle.std.specs.Prelude.{◌≡◌, ℕ, List, [], ◌∷◌, ◌++◌, Ok, Err, codes, false}
use Rattle.device_port.specs.declared.faults.Fault.{Fault as DeviceFault}
use Rattle.ckd_disk.specs.declared.mount.Geometry.{Geometry}
use Rattle.line_printer.specs.Mount.{opening as opening_printer}
use Rattle.tape_unit.specs.Item.{tape_mark}
use Rattle.unit_book.specs.Book.{Book, opening}
use Rattle.unit_book.specs.declared.dcb.ProcessingMethod.TheVariants.{Output}
use Rattle.any_device.specs.declared.device.AnyDevice.{AnyDevice}
use Rattle.any_device.specs.declared.device.AnyDevice.TheVariants.{Disk, Printer, Tape}
use Rattle.job_script.specs.declared.fault.FaultName.{FaultName}
use Rattle.job_script.specs.declared.fault.FaultName.TheVariants.{Medium, Extent, Request}
use Rattle.job_script.specs.Grammar.{script_of}
use Rattle.job_script.specs.Runs.{one_track, small, stored_script, text_of, whole_track}
use Rattle.job_script.specs.Said.{OpeningSaid, RecordSaid}
use Rattle.job_mount.specs.Devices.{disk_with, tape_with}
use Rattle.job_mount.specs.Mounting.{◌>>=◌, books_of}
use Rattle.job_mount.specs.Openings.{with_dcb}

-- a script of these lines has these books, each for one request at a time
abbrev pub HasBooks : List (List ℕ) → List (Book AnyDevice) → Type 0
HasBooks ls books = script_of (text_of ls) >>= books_of 1 ≡ Ok books

-- its first fault is this one
abbrev pub Ends : List (List ℕ) → ℕ → FaultName → Type 0
Ends ls line name = script_of (text_of ls) >>= books_of 1 ≡ Err (record { line = line; name = name })

-- the record of the stored script
abbrev pub four_bytes : RecordSaid
four_bytes = record { cylinder = 0; head = 0; number = 1; key = []; content = 193 ∷ 194 ∷ 195 ∷ 196 ∷ [] }

-- the DCB of its line 4
abbrev pub output_dcb : OpeningSaid
output_dcb = record { line = 4; method = Output; extents = whole_track ∷ [] }

-- the book of the stored script
abbrev pub stored_book : Book AnyDevice
stored_book = with_dcb (opening (Disk (disk_with one_track (four_bytes ∷ []) [])) 0 1) output_dcb

-- the stored script with this line after it
abbrev pub then_line : List ℕ → List (List ℕ)
then_line text = stored_script ++ text ∷ []

-- two tracks, whose first record is on the second track
abbrev pub two_tracks : Geometry
two_tracks = record { cylinders = 1; heads = 2; track_bytes = 40 }

-- a command's unit check
abbrev pub check_at : ℕ → DeviceFault
check_at ordinal = record { ordinal = ordinal; unit = record { 0 = 14 }; sub = record { 0 = 0 }; sense = 4096 }

-- the runs
pub record MountRuns : Type 0 where
  pub no_command : HasBooks small (opening (Disk (disk_with one_track [] [])) 0 1 ∷ [])
  pub one_request : HasBooks (then_line (codes "excp 0 0 1 001000 0 001060 4")) (stored_book ∷ [])
  pub no_byte_shown : HasBooks (then_line (codes "excp 0 0 1 001000 0 FFFFFF 0")) (stored_book ∷ [])
  pub track_too_small : Ends (codes "tasks 1" ∷ codes "disk 0 0 1 1 27" ∷ codes "rec 0 0 0 1 - C1C2C3C4" ∷ []) 2 Medium
  pub no_cylinder : Ends (codes "tasks 1" ∷ codes "disk 0 0 0 1 40" ∷ []) 2 Medium
  pub record_outside : Ends (small ++ codes "rec 0 0 1 1 - C1" ∷ []) 2 Medium
  pub faults_fall : Ends (small ++ codes "fault 0 2 0E 00 1000" ∷ codes "fault 0 1 0E 00 1000" ∷ []) 2 Medium
  pub small_tape : Ends (codes "tasks 1" ∷ codes "tape 0 0 3" ∷ []) 2 Medium
  pub long_block : Ends (codes "tasks 1" ∷ codes "tape 0 0 8" ∷ codes "block 0 C1C2C3C4C5" ∷ []) 2 Medium
  pub many_lines : Ends (codes "tasks 1" ∷ codes "printer 0 0 100001 1" ∷ []) 2 Medium
  pub first_unit : Ends (small ++ codes "tape 1 0 3" ∷ codes "fault 0 0 0E 00 1000" ∷ []) 2 Medium
  pub medium_first : Ends (small ++ codes "open 0 out" ∷ codes "tape 1 0 3" ∷ []) 4 Medium
  pub tracks_two : Ends (small ++ codes "open 0 out 18000000000000000000000000000002" ∷ []) 3 Extent
  pub no_extent : Ends (small ++ codes "open 0 out" ∷ []) 3 Extent
  pub tape_extent : Ends (codes "tasks 1" ∷ codes "tape 0 0 8" ∷ codes "open 0 in 18000000000000000000000000000001" ∷ []) 3 Extent
  pub first_line : Ends (small ++ codes "disk 1 0 1 1 40" ∷ codes "open 1 out" ∷ codes "open 0 out" ∷ []) 4 Extent
  pub extent_first : Ends (then_line (codes "open 0 out") ++ codes "excp 0 0 1 001048 0 001060 4" ∷ []) 6 Extent
  pub iob_outside : Ends (then_line (codes "excp 0 0 1 001048 0 001060 4")) 6 Request
  pub shown_outside : Ends (then_line (codes "excp 0 0 1 001000 0 001060 9")) 6 Request
  pub first_request : Ends (then_line (codes "excp 0 0 1 001000 0 001060 9") ++ codes "excp 0 0 1 001048 0 001060 4" ∷ []) 6 Request
  pub three_units :
      HasBooks
      (codes "tasks 1" ∷ codes "disk 0 7 1 2 40" ∷ codes "tape 1 3 12" ∷ codes "printer 2 0 5 1"
      ∷ codes "rec 0 0 1 1 - C1C2C3C4" ∷ codes "mark 1" ∷ codes "fault 2 1 0E 00 1000" ∷ codes "fault 2 3 0E 00 1000" ∷ [])
      (opening (Disk (disk_with two_tracks (record four_bytes { head = 1 } ∷ []) [])) 7 1
      ∷ opening (Tape (tape_with 12 (tape_mark ∷ []) [])) 3 1
      ∷ opening (Printer (opening_printer 5 1 (check_at 1 ∷ check_at 3 ∷ []))) 0 1 ∷ [])
