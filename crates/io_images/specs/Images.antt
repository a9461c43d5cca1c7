-- What the bytes of an image say.
use Rattle.std.specs.Prelude.{ℕ, List, drop, slice_index}
use Rattle.byteorder.specs.Endian.{big_from}
use Rattle.io_images.specs.Bits.{is_on, iob_data_chaining_bit, iob_command_chaining_bit, iob_io_error_bit, iob_unrelated_bit}
use Rattle.io_images.specs.declared.ccw.Ccw.{Ccw}
use Rattle.io_images.specs.declared.csw.Csw.{Csw}
use Rattle.io_images.specs.declared.ecb.Ecb.{Ecb}
use Rattle.io_images.specs.declared.extent.Extent.{Extent}
use Rattle.io_images.specs.declared.iob.Iob.{Iob}
use Rattle.io_images.specs.declared.seek.Seek.{Seek}

-- an address in three bytes
abbrev pub address_of : List ℕ → ℕ
address_of image = big_from 0 3 image

-- a word of an address list, bit 0 included (Principles of Operation, chapter 15, "Indirect Data Addressing")
abbrev pub word_of : List ℕ → ℕ
word_of image = big_from 0 4 image

-- a format-0 CCW: command 0, data address 1 to 3, flags 4, count 6 to 7
-- (Principles of Operation, chapter 15, "Channel-Command Word")
abbrev pub ccw_of : List ℕ → Ccw
ccw_of image = record {
  command = slice_index image 0;
  address = big_from 1 3 image;
  flags = record { 0 = slice_index image 4 };
  count = big_from 6 2 image;
}

-- the eight bytes of an IOB's CSW: CCW address 1 to 3, unit status 4, subchannel status 5, residual count 6 to 7
-- (DFSMSdfp Advanced Services, "Input/Output Block Fields", IOBCSW)
abbrev pub csw_of : List ℕ → Csw
csw_of image = record {
  address = big_from 1 3 image;
  unit = record { 0 = slice_index image 4 };
  sub = record { 0 = slice_index image 5 };
  residual = big_from 6 2 image;
}

-- THE EMPTY STATUS: that of a request that was never started, and of an idle subchannel that is halted (profile)
abbrev pub no_status : Csw
no_status = record { address = 0; unit = record { 0 = 0 }; sub = record { 0 = 0 }; residual = 0 }

-- a seek address MBBCCHHR (DFSMSdfp Advanced Services, "Input/Output Block Fields", IOBSEEK)
abbrev pub seek_of : List ℕ → Seek
seek_of image = record {
  extent = slice_index image 0;
  bin = big_from 1 2 image;
  cylinder = big_from 3 2 image;
  head = big_from 5 2 image;
  «record» = slice_index image 7;
}

-- an extent: file mask 0, unit control block 1 to 3, bin 4 to 5, start CC 6 to 7, start HH 8 to 9,
-- end CC 10 to 11, end HH 12 to 13, number of tracks 14 to 15 (DFSMSdfp Advanced Services, "Data Extent Block Fields")
abbrev pub extent_of : List ℕ → Extent
extent_of image = record {
  file_mask = slice_index image 0;
  unit_block = big_from 1 3 image;
  bin = big_from 4 2 image;
  start_cylinder = big_from 6 2 image;
  start_head = big_from 8 2 image;
  end_cylinder = big_from 10 2 image;
  end_head = big_from 12 2 image;
  tracks = big_from 14 2 image;
}

-- an ECB is its word (DFSMSdfp Advanced Services, "Event Control Block Fields")
abbrev pub ecb_of : List ℕ → Ecb
ecb_of image = record { word = big_from 0 4 image }

-- an IOB: IOBFLAG1 0, sense 2 to 3, completion code 4, ECB address 5 to 7, CSW 8 to 15, IOBSTART 17 to 19,
-- DCB pointer 21 to 23, IOBSEEK 32 to 39 (DFSMSdfp Advanced Services, "Input/Output Block Fields")
abbrev pub iob_of : List ℕ → Iob
iob_of image = record {
  data_chaining = is_on iob_data_chaining_bit (slice_index image 0);
  command_chaining = is_on iob_command_chaining_bit (slice_index image 0);
  io_error = is_on iob_io_error_bit (slice_index image 0);
  unrelated = is_on iob_unrelated_bit (slice_index image 0);
  sense = big_from 2 2 image;
  completion = slice_index image 4;
  ecb = big_from 5 3 image;
  csw = csw_of (drop 8 image);
  start = big_from 17 3 image;
  dcb = big_from 21 3 image;
  seek = seek_of (drop 32 image);
}
