-- What the commands of every device do that need nothing but the medium and a position (profile).
use Rattle.std.specs.Prelude.{ℕ, []}
use Rattle.device_port.specs.declared.answer.Acted.{Acted}
use Rattle.device_port.specs.declared.faults.Fault.{Fault}
use Rattle.device_port.specs.Answers.{no_operation_ended, sense_bytes, sense_ended, unit_check, rejected}
use Rattle.device_port.specs.Faults.{failed}
use Rattle.device_port.specs.Meaning.{Outcome}

-- a command that changes nothing on the device and gives no byte
abbrev pub unchanged : {D : Type 0} → D → Acted → Outcome D
unchanged d acted = record { acted = acted; device = d; bytes = [] }

-- 03 NO-OPERATION
abbrev pub no_operation : {D : Type 0} → D → Outcome D
no_operation d = unchanged d no_operation_ended

-- 04 SENSE
abbrev pub sense : {D : Type 0} → D → Outcome D
sense d = record { acted = sense_ended; device = d; bytes = sense_bytes }

-- UNIT CHECK with this sense: medium and position stay
abbrev pub checked : {D : Type 0} → D → ℕ → Outcome D
checked d sense = unchanged d (unit_check sense)

-- A CODE THAT IS NOT LISTED
abbrev pub unlisted : {D : Type 0} → D → Outcome D
unlisted d = unchanged d rejected

-- A COMMAND THAT MEETS A FAULT
abbrev pub faulted : {D : Type 0} → D → Fault → Outcome D
faulted d fault = unchanged d (failed fault)
