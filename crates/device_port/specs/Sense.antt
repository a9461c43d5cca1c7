-- The sense that devices give with unit check: byte 0 in the high half, byte 1 in the low one.
use Rattle.std.specs.Prelude.{ℕ}

-- ---- byte 0, the same on every device (profile)

abbrev pub no_sense : ℕ
no_sense = 0

-- the command, or its position in the program, is not one that the device takes
abbrev pub command_reject : ℕ
command_reject = 0x8000

-- the operator has to do something first, as to put paper in
abbrev pub intervention_required : ℕ
intervention_required = 0x4000

-- the device is out of order; on a tape, no room or no item ahead
abbrev pub equipment_check : ℕ
equipment_check = 0x1000

-- ---- byte 1 of a disk (count-key-data devices)

-- a record does not fit its track
abbrev pub invalid_track_format : ℕ
invalid_track_format = 0x0040

-- no such record on the track
abbrev pub no_record_found : ℕ
no_record_found = 0x0008

-- the file mask does not let the seek
abbrev pub file_protected : ℕ
file_protected = 0x0004
