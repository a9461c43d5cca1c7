-- The bits that control blocks name, each by one word, and the statuses that devices end with.
use Rattle.std.specs.Prelude.{ℕ, ◌+◌, ◌==◌, Bool}
use Rattle.std.specs.Int.RustNames.{bit_and}

-- each bit of a mask is on
abbrev pub is_on : ℕ → ℕ → Bool
is_on mask byte = bit_and byte mask == mask

-- no bit of a mask is on
abbrev pub is_off : ℕ → ℕ → Bool
is_off mask byte = bit_and byte mask == 0

-- ---- flags of a CCW (Principles of Operation, chapter 15, "Channel-Command Word")

abbrev pub chain_data_bit : ℕ
chain_data_bit = 0x80

abbrev pub chain_command_bit : ℕ
chain_command_bit = 0x40

abbrev pub suppress_length_bit : ℕ
suppress_length_bit = 0x20

abbrev pub skip_bit : ℕ
skip_bit = 0x10

abbrev pub interrupt_bit : ℕ
interrupt_bit = 0x08

abbrev pub indirect_bit : ℕ
indirect_bit = 0x04

abbrev pub suspend_bit : ℕ
suspend_bit = 0x02

abbrev pub reserved_bit : ℕ
reserved_bit = 0x01

-- the flags that a program may not use (profile): X'03'
abbrev pub unusable_flags : ℕ
unusable_flags = suspend_bit + reserved_bit

-- ---- unit status (Principles of Operation, chapter 16, "Device-Status Field")

abbrev pub attention_bit : ℕ
attention_bit = 0x80

abbrev pub status_modifier_bit : ℕ
status_modifier_bit = 0x40

abbrev pub control_unit_end_bit : ℕ
control_unit_end_bit = 0x20

abbrev pub busy_bit : ℕ
busy_bit = 0x10

abbrev pub channel_end_bit : ℕ
channel_end_bit = 0x08

abbrev pub device_end_bit : ℕ
device_end_bit = 0x04

abbrev pub unit_check_bit : ℕ
unit_check_bit = 0x02

abbrev pub unit_exception_bit : ℕ
unit_exception_bit = 0x01

-- unit check and unit exception: X'03'
abbrev pub check_or_exception : ℕ
check_or_exception = unit_check_bit + unit_exception_bit

-- how a command ends, channel end and device end coming at once (profile): normally, X'0C'
abbrev pub normal_end_status : ℕ
normal_end_status = channel_end_bit + device_end_bit

-- with status modifier, X'4C'
abbrev pub modifier_end_status : ℕ
modifier_end_status = status_modifier_bit + normal_end_status

-- with unit check, X'0E'
abbrev pub check_end_status : ℕ
check_end_status = normal_end_status + unit_check_bit

-- with unit exception, X'0D'
abbrev pub exception_end_status : ℕ
exception_end_status = normal_end_status + unit_exception_bit

-- ---- subchannel status (Principles of Operation, chapter 16, "Subchannel-Status Field")

abbrev pub program_interruption_bit : ℕ
program_interruption_bit = 0x80

abbrev pub incorrect_length_bit : ℕ
incorrect_length_bit = 0x40

abbrev pub program_check_bit : ℕ
program_check_bit = 0x20

abbrev pub protection_check_bit : ℕ
protection_check_bit = 0x10

abbrev pub channel_data_check_bit : ℕ
channel_data_check_bit = 0x08

abbrev pub channel_control_check_bit : ℕ
channel_control_check_bit = 0x04

abbrev pub interface_control_check_bit : ℕ
interface_control_check_bit = 0x02

abbrev pub chaining_check_bit : ℕ
chaining_check_bit = 0x01

-- ---- IOBFLAG1 (DFSMSdfp Advanced Services, "Input/Output Block Fields")

abbrev pub iob_data_chaining_bit : ℕ
iob_data_chaining_bit = 0x80

abbrev pub iob_command_chaining_bit : ℕ
iob_command_chaining_bit = 0x40

-- IOBIOERR
abbrev pub iob_io_error_bit : ℕ
iob_io_error_bit = 0x04

-- IOBUNREL
abbrev pub iob_unrelated_bit : ℕ
iob_unrelated_bit = 0x02

-- ---- the event control block (DFSMSdfp Advanced Services, "Event Control Block Fields")

-- the complete bit, X'40' of byte 0
abbrev pub ecb_complete_bit : ℕ
ecb_complete_bit = 0x4000_0000
