-- What an image is once a value was written into it. What a definition takes from the old image is kept.
use Rattle.std.specs.Prelude.{ℕ, Bool, List, [], ◌∷◌, ◌++◌, take, drop, slice_index, if◌then◌else◌}
use Rattle.std.specs.Int.RustNames.{bit_or}
use Rattle.bitflags.specs.Sets.{without}
use Rattle.byteorder.specs.Endian.{big_bytes}
use Rattle.io_images.specs.Bits.{iob_data_chaining_bit, iob_command_chaining_bit, iob_io_error_bit, iob_unrelated_bit}
use Rattle.io_images.specs.declared.ccw.Ccw.{Ccw}
use Rattle.io_images.specs.declared.csw.Csw.{Csw}
use Rattle.io_images.specs.declared.ecb.Ecb.{Ecb}
use Rattle.io_images.specs.declared.extent.Extent.{Extent}
use Rattle.io_images.specs.declared.iob.Iob.{Iob}
use Rattle.io_images.specs.declared.seek.Seek.{Seek}

-- the three bytes of an address
abbrev pub address_image : ℕ → List ℕ
address_image address = big_bytes 3 address

-- the four bytes of a word of an address list
abbrev pub word_image : ℕ → List ℕ
word_image word = big_bytes 4 word

-- a CCW: byte 5 is kept
abbrev pub ccw_image : Ccw → List ℕ → List ℕ
ccw_image ccw old =
    ccw.command ∷ big_bytes 3 ccw.address ++ ccw.flags.0 ∷ slice_index old 5 ∷ big_bytes 2 ccw.count

-- the eight bytes of an IOB's CSW: byte 0 is kept
abbrev pub csw_image : Csw → List ℕ → List ℕ
csw_image csw old =
    slice_index old 0 ∷ big_bytes 3 csw.address ++ csw.unit.0 ∷ csw.sub.0 ∷ big_bytes 2 csw.residual

-- a seek address
abbrev pub seek_image : Seek → List ℕ
seek_image seek =
    seek.extent ∷ big_bytes 2 seek.bin ++ big_bytes 2 seek.cylinder ++ big_bytes 2 seek.head ++ seek.record ∷ []

-- an extent
abbrev pub extent_image : Extent → List ℕ
extent_image extent =
    extent.file_mask ∷ big_bytes 3 extent.unit_block ++ big_bytes 2 extent.bin
    ++ big_bytes 2 extent.start_cylinder ++ big_bytes 2 extent.start_head
    ++ big_bytes 2 extent.end_cylinder ++ big_bytes 2 extent.end_head
    ++ big_bytes 2 extent.tracks

-- an ECB
abbrev pub ecb_image : Ecb → List ℕ
ecb_image ecb = big_bytes 4 ecb.word

-- a byte with one of its bits turned on or off
abbrev pub with_bit : ℕ → Bool → ℕ → ℕ
with_bit bit on byte = if on then bit_or byte bit else without 8 byte bit

-- IOBFLAG1: the bits that an IOB does not name are kept
abbrev pub flag_byte : Iob → ℕ → ℕ
flag_byte iob old =
    with_bit iob_unrelated_bit iob.unrelated (with_bit iob_io_error_bit iob.io_error (
    with_bit iob_command_chaining_bit iob.command_chaining (with_bit iob_data_chaining_bit iob.data_chaining old)))

-- an IOB: the other bits of byte 0 and the bytes 1, 8, 16, 20 and 24 to 31 are kept
abbrev pub iob_image : Iob → List ℕ → List ℕ
iob_image iob old =
    flag_byte iob (slice_index old 0) ∷ slice_index old 1 ∷ big_bytes 2 iob.sense
    ++ iob.completion ∷ big_bytes 3 iob.ecb
    ++ csw_image iob.csw (drop 8 old)
    ++ slice_index old 16 ∷ big_bytes 3 iob.start
    ++ slice_index old 20 ∷ big_bytes 3 iob.dcb
    ++ take 8 (drop 24 old)
    ++ seek_image iob.seek
