-- The file mask of a disk: which writes and which seeks it lets a program do (count-key-data devices; profile).
use Rattle.std.specs.Prelude.{ℕ, ◌==◌, Bool, not, ◌||◌}
use Rattle.std.specs.Int.RustNames.{bit_and}
use Rattle.io_images.specs.Bits.{is_off}

-- bits 0 and 1: 01 inhibits all writes, 10 those that format; 00 and 11 let all that there are
abbrev pub write_bits : ℕ
write_bits = 0xC0

abbrev pub no_writes : ℕ
no_writes = 0x40

abbrev pub no_formatting : ℕ
no_formatting = 0x80

abbrev pub inhibits_writes : ℕ → Bool
inhibits_writes mask = bit_and mask write_bits == no_writes

abbrev pub inhibits_formatting : ℕ → Bool
inhibits_formatting mask = inhibits_writes mask || (bit_and mask write_bits == no_formatting)

-- bits 3 and 4: a seek is allowed only if they are 00
abbrev pub seek_bits : ℕ
seek_bits = 0x18

abbrev pub inhibits_seeks : ℕ → Bool
inhibits_seeks mask = not (is_off seek_bits mask)

-- the mask of a DCB opened for input, with no writes and no seeks, and of one opened for output, with no seeks
-- (profile)
abbrev pub input_mask : ℕ
input_mask = 0x58

abbrev pub output_mask : ℕ
output_mask = 0x18
