-- What is read from an image that a value was written into is that value.
use Rattle.std.proofs.Common.{◌≡◌, ℕ, ◌^◌, ◌<◌, List, [], ◌++◌, length, slice_index, arith, refl, ◌∙◌}
use Rattle.byteorder.specs.Endian.{big_from}
use Rattle.io_images.proofs.Bits.{is_on-other, is_on-same}
use Rattle.io_images.proofs.Listed.{listed, listed-is}
use Rattle.io_images.specs.declared.ccw.Ccw.{Ccw}
use Rattle.io_images.specs.declared.csw.Csw.{Csw}
use Rattle.io_images.specs.declared.ecb.Ecb.{Ecb}
use Rattle.io_images.specs.declared.extent.Extent.{Extent}
use Rattle.io_images.specs.declared.iob.Iob.{Iob}
use Rattle.io_images.specs.declared.seek.Seek.{Seek}
use Rattle.io_images.specs.Bits.{is_on, iob_data_chaining_bit, iob_command_chaining_bit, iob_io_error_bit, iob_unrelated_bit}
use Rattle.io_images.specs.Images.{ccw_of, csw_of, ecb_of, extent_of, iob_of, seek_of}
use Rattle.io_images.specs.Written.{ccw_image, csw_image, ecb_image, extent_image, flag_byte, iob_image, seek_image, with_bit}

-- a CCW
pub ccw-reads_back : (ccw : Ccw) (old : List ℕ) → ccw.address < 2 ^ 24 → ccw.count < 2 ^ 16
    → ccw_of (ccw_image ccw old) ≡ ccw
ccw-reads_back ccw old a n =
    let address : big_from 1 3 (ccw_image ccw old) ≡ ccw.address = omega arith in
    let count : big_from 6 2 (ccw_image ccw old) ≡ ccw.count = omega arith in
    rw (address, count) refl

-- a CSW, whatever follows it
pub csw-reads_back : (csw : Csw) (old rest : List ℕ) → csw.address < 2 ^ 24 → csw.residual < 2 ^ 16
    → csw_of (csw_image csw old ++ rest) ≡ csw
csw-reads_back csw old rest a n =
    let address : big_from 1 3 (csw_image csw old ++ rest) ≡ csw.address = omega arith in
    let residual : big_from 6 2 (csw_image csw old ++ rest) ≡ csw.residual = omega arith in
    rw (address, residual) refl

-- a seek address, whatever follows it
pub seek-reads_back : (seek : Seek) (rest : List ℕ) → seek.bin < 2 ^ 16 → seek.cylinder < 2 ^ 16 → seek.head < 2 ^ 16
    → seek_of (seek_image seek ++ rest) ≡ seek
seek-reads_back seek rest b c h =
    let bin : big_from 1 2 (seek_image seek ++ rest) ≡ seek.bin = omega arith in
    let cylinder : big_from 3 2 (seek_image seek ++ rest) ≡ seek.cylinder = omega arith in
    let head : big_from 5 2 (seek_image seek ++ rest) ≡ seek.head = omega arith in
    rw (bin, cylinder, head) refl

-- an ECB
pub ecb-reads_back : (ecb : Ecb) → ecb.word < 2 ^ 32 → ecb_of (ecb_image ecb) ≡ ecb
ecb-reads_back ecb h =
    let word : big_from 0 4 (ecb_image ecb) ≡ ecb.word = omega arith in
    rw word refl

-- the numbers of an extent fit their bytes
pub record ExtentFits (extent : Extent) : Type 0 where
  pub unit_block : extent.unit_block < 2 ^ 24
  pub bin : extent.bin < 2 ^ 16
  pub start_cylinder : extent.start_cylinder < 2 ^ 16
  pub start_head : extent.start_head < 2 ^ 16
  pub end_cylinder : extent.end_cylinder < 2 ^ 16
  pub end_head : extent.end_head < 2 ^ 16
  pub tracks : extent.tracks < 2 ^ 16

-- an extent
pub extent-reads_back : (extent : Extent) → ExtentFits extent → extent_of (extent_image extent) ≡ extent
extent-reads_back extent fits =
    let unit_block : big_from 1 3 (extent_image extent) ≡ extent.unit_block = omega arith in
    let bin : big_from 4 2 (extent_image extent) ≡ extent.bin = omega arith in
    let start_cylinder : big_from 6 2 (extent_image extent) ≡ extent.start_cylinder = omega arith in
    let start_head : big_from 8 2 (extent_image extent) ≡ extent.start_head = omega arith in
    let end_cylinder : big_from 10 2 (extent_image extent) ≡ extent.end_cylinder = omega arith in
    let end_head : big_from 12 2 (extent_image extent) ≡ extent.end_head = omega arith in
    let tracks : big_from 14 2 (extent_image extent) ≡ extent.tracks = omega arith in
    rw (unit_block, bin, start_cylinder, start_head, end_cylinder, end_head, tracks) refl

-- the flags of an IOB
flags-read_back : (iob : Iob) (old : ℕ)
    → (is_on iob_data_chaining_bit (flag_byte iob old) ≡ iob.data_chaining)
    × (is_on iob_command_chaining_bit (flag_byte iob old) ≡ iob.command_chaining)
    × (is_on iob_io_error_bit (flag_byte iob old) ≡ iob.io_error) × (is_on iob_unrelated_bit (flag_byte iob old) ≡ iob.unrelated)
flags-read_back iob old =
    let data_on = with_bit iob_data_chaining_bit iob.data_chaining old in
    let command_on = with_bit iob_command_chaining_bit iob.command_chaining data_on in
    let error_on = with_bit iob_io_error_bit iob.io_error command_on in (
      is_on-other iob_data_chaining_bit iob_unrelated_bit error_on iob.unrelated refl refl
          ∙ is_on-other iob_data_chaining_bit iob_io_error_bit command_on iob.io_error refl refl
          ∙ is_on-other iob_data_chaining_bit iob_command_chaining_bit data_on iob.command_chaining refl refl
          ∙ is_on-same iob_data_chaining_bit old iob.data_chaining refl refl,
      is_on-other iob_command_chaining_bit iob_unrelated_bit error_on iob.unrelated refl refl
          ∙ is_on-other iob_command_chaining_bit iob_io_error_bit command_on iob.io_error refl refl
          ∙ is_on-same iob_command_chaining_bit data_on iob.command_chaining refl refl,
      is_on-other iob_io_error_bit iob_unrelated_bit error_on iob.unrelated refl refl
          ∙ is_on-same iob_io_error_bit command_on iob.io_error refl refl,
      is_on-same iob_unrelated_bit error_on iob.unrelated refl refl,
    )

-- what is known of the fields of an IOB
pub record IobFits (iob : Iob) : Type 0 where
  pub sense : iob.sense < 2 ^ 16
  pub ecb : iob.ecb < 2 ^ 24
  pub csw : csw_of (csw_image iob.csw []) ≡ iob.csw
  pub start : iob.start < 2 ^ 24
  pub dcb : iob.dcb < 2 ^ 24
  pub seek : seek_of (seek_image iob.seek) ≡ iob.seek

-- an IOB
pub iob-reads_back : (iob : Iob) (old : List ℕ) → length old ≡ 40 → IobFits iob → iob_of (iob_image iob old) ≡ iob
iob-reads_back iob old len fits =
    let whole = listed-is 40 old len in
    let flags = flags-read_back iob (slice_index old 0) in
    let sense : big_from 2 2 (iob_image iob (listed 40 0 old)) ≡ iob.sense = omega (arith, fits.sense) in
    let ecb : big_from 5 3 (iob_image iob (listed 40 0 old)) ≡ iob.ecb = omega (arith, fits.ecb) in
    let start : big_from 17 3 (iob_image iob (listed 40 0 old)) ≡ iob.start = omega (arith, fits.start) in
    let dcb : big_from 21 3 (iob_image iob (listed 40 0 old)) ≡ iob.dcb = omega (arith, fits.dcb) in
    rw (← whole) (rw (flags.0, flags.1, flags.2, flags.3, sense, ecb, start, dcb, fits.csw, fits.seek) refl)
