-- The header of an image of a disk (CKD_P370), 512 bytes.
use Rattle.std.specs.Prelude.{ℕ, Bool, not, nat_le, nat_eq, ◌&&◌, ◌==◌, List, drop, slice_index, codes, Result, Ok, Err, if◌then◌else◌}
use Rattle.std.specs.List.{starts_with}
use Rattle.byteorder.specs.Endian.{little_number}
use Rattle.ckd_disk.specs.Volume.{is_heads}
use Rattle.ckd_image.specs.declared.fault.CkdError.{CkdError}
use Rattle.ckd_image.specs.declared.fault.CkdFault.{CkdFault}
use Rattle.ckd_image.specs.declared.fault.CkdFault.TheVariants as fault
use Rattle.ckd_image.specs.declared.format.Format.{Format}

-- bytes 8 to 11: tracks a cylinder, the lowest byte first
abbrev pub header_heads : List ℕ → ℕ
header_heads header = little_number 4 (drop 8 header)

-- bytes 12 to 15: bytes a track in the image
abbrev pub bytes_of : List ℕ → ℕ
bytes_of header = little_number 4 (drop 12 header)

-- a track in an image has 14 bytes more than on a volume: its home address and its end mark, rounded
abbrev pub is_bytes : ℕ → Bool
is_bytes bytes = nat_le 30 bytes && nat_le bytes 65_549

abbrev pub fails_at : {A : Type 0} → CkdFault → ℕ → Result A CkdError
fails_at fault offset = Err (record { fault = fault; offset = offset })

-- WHAT A HEADER SAYS, or the first rule that it breaks. Byte 17 is the number of a file of a split volume
abbrev pub format_of : List ℕ → Result Format CkdError
format_of header =
    if starts_with nat_eq header (codes "CKD_C370") then fails_at fault.Compressed 0
    else if not (starts_with nat_eq header (codes "CKD_P370")) then fails_at fault.BadEyeCatcher 0
    else if not (is_heads (header_heads header)) then fails_at fault.BadHeads 8
    else if not (is_bytes (bytes_of header)) then fails_at fault.BadTrackBytes 12
    else if not (slice_index header 17 == 0) then fails_at fault.SplitVolume 17
    else Ok (record { heads = header_heads header; bytes = bytes_of header })
