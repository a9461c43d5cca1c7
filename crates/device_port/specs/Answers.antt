-- How commands end (Principles of Operation, chapter 16, "Unit status"; the rules on `want` are the profile's).
use Rattle.std.specs.Prelude.{ℕ, List, [], ◌∷◌, length}
use Rattle.io_images.specs.Bits.{normal_end_status, modifier_end_status, check_end_status, exception_end_status}
use Rattle.device_port.specs.declared.answer.Acted.{Acted}
use Rattle.device_port.specs.Sense.{no_sense, command_reject}

-- a command that ended with this unit status and sense, and no subchannel status
abbrev pub ended : ℕ → ℕ → ℕ → Acted
ended unit sense want = record { unit = record { 0 = unit }; sub = record { 0 = 0 }; sense = sense; want = want }

-- channel end and device end
abbrev pub normal_end : ℕ → Acted
normal_end want = ended normal_end_status no_sense want

-- a search that found what it looked for: status modifier too
abbrev pub status_modifier : ℕ → Acted
status_modifier want = ended modifier_end_status no_sense want

-- unit check with this sense; no byte is wanted
abbrev pub unit_check : ℕ → Acted
unit_check sense = ended check_end_status sense 0

-- unit exception
abbrev pub unit_exception : ℕ → Acted
unit_exception want = ended exception_end_status no_sense want

-- ---- the commands that every device has (profile)

-- 03 NO-OPERATION
abbrev pub no_operation_ended : Acted
no_operation_ended = normal_end 0

-- 04 SENSE: two bytes of zeros, since the sense comes with the status
abbrev pub sense_bytes : List ℕ
sense_bytes = 0 ∷ 0 ∷ []

abbrev pub sense_ended : Acted
sense_ended = normal_end (length sense_bytes)

-- COMMAND REJECT: a code that is not listed for a device, or a command that it does not take at its position
abbrev pub rejected : Acted
rejected = unit_check command_reject
