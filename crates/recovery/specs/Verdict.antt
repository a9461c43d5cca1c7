-- What becomes of a request whose channel program has ended. Status bits are those of the Principles of
-- Operation, chapter 16, sense bits those of the device; which errors are tried again is the profile's.
use Rattle.std.specs.Prelude.{ℕ, ◌+◌, ◌==◌, nat_le, not, Bool, true, false, ◌&&◌, ◌||◌, if◌then◌else◌}
use Rattle.io_images.specs.declared.code.Code.TheVariants.{Ended, PermanentError}
use Rattle.io_images.specs.declared.csw.Csw.{Csw}
use Rattle.io_images.specs.Bits.{is_on, is_off, check_or_exception, unit_check_bit, unit_exception_bit, normal_end_status}
use Rattle.io_images.specs.Bits.{modifier_end_status, channel_data_check_bit, interface_control_check_bit}
use Rattle.device_port.specs.declared.kind.Kind.{Kind}
use Rattle.device_port.specs.declared.kind.Kind.TheVariants.{Disk, Tape, Printer}
use Rattle.recovery.specs.declared.answer.Verdict.{Verdict}
use Rattle.recovery.specs.declared.answer.Verdict.TheVariants.{Retry, Final}

-- only a disk's programs are tried again
abbrev pub is_disk : Kind → Bool
is_disk Disk = true
is_disk Tape = false
is_disk Printer = false

-- ended without error: channel end and device end, with or without status modifier, and nothing else
abbrev pub is_success : Csw → Bool
is_success csw = ((csw.unit.0 == normal_end_status) || (csw.unit.0 == modifier_end_status)) && (csw.sub.0 == 0)

-- sense of an error that may pass: bus-out check, equipment check, data check or overrun in byte 0
abbrev pub passing_sense : ℕ
passing_sense = 0x3C00

-- sense of one that does not: command reject or intervention required in byte 0, and all of byte 1
abbrev pub lasting_sense : ℕ
lasting_sense = 0xC0FF

-- the device shows an error that may pass: unit check and no unit exception, with sense of such an error and none of
-- one that does not pass
abbrev pub is_passing_error : Csw → ℕ → Bool
is_passing_error csw sense =
    is_on unit_check_bit csw.unit.0 && not (is_on unit_exception_bit csw.unit.0) && (csw.sub.0 == 0)
    && not (is_off passing_sense sense) && is_off lasting_sense sense

-- the channel shows an error that may pass: channel-data check, interface-control check or both alone, with
-- neither unit check nor unit exception
abbrev pub is_channel_error : Csw → Bool
is_channel_error csw =
    is_off check_or_exception csw.unit.0
    && ((csw.sub.0 == channel_data_check_bit) || (csw.sub.0 == interface_control_check_bit)
    || (csw.sub.0 == channel_data_check_bit + interface_control_check_bit))

-- the verdict after a number of starts: a program is started again at most ten times
abbrev pub verdict : Kind → Csw → ℕ → ℕ → Verdict
verdict kind csw sense attempt =
    if is_success csw then Final Ended
    else if is_disk kind && nat_le attempt 10 && (is_passing_error csw sense || is_channel_error csw) then Retry
    else Final PermanentError
