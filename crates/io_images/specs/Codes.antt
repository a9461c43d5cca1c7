-- Completion codes and the event control block (DFSMSdfp Advanced Services, "Event Control Block Fields").
use Rattle.std.specs.Prelude.{ℕ, ◌*◌, ◌^◌, Bool, true, false}
use Rattle.io_images.specs.Bits.{is_on, ecb_complete_bit}
use Rattle.io_images.specs.declared.code.Code.{Code}
use Rattle.io_images.specs.declared.code.Code.TheVariants.{Ended, PermanentError, ExtentViolated, Purged}
use Rattle.io_images.specs.declared.ecb.Ecb.{Ecb}

-- the byte of a completion code
abbrev pub code_byte : Code → ℕ
code_byte Ended = 0x7F
code_byte PermanentError = 0x41
code_byte ExtentViolated = 0x42
code_byte Purged = 0x48

-- a permanent error; a seek outside the extents counts as one (profile)
abbrev pub is_error : Code → Bool
is_error Ended = false
is_error PermanentError = true
is_error ExtentViolated = true
is_error Purged = false

-- IOBIOERR goes on with every code but 7F (profile)
abbrev pub sets_io_error : Code → Bool
sets_io_error Ended = false
sets_io_error PermanentError = true
sets_io_error ExtentViolated = true
sets_io_error Purged = true

-- what a post writes into the ECB: the completion code in byte 0, and zeros
abbrev pub posted_ecb : Code → Ecb
posted_ecb code = record { word = code_byte code * 2 ^ 24 }

-- the complete bit is on
abbrev pub is_complete : Ecb → Bool
is_complete ecb = is_on ecb_complete_bit ecb.word
