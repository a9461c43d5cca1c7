-- The request that an IOB describes, and when there is none.
use Rattle.std.specs.Prelude.{◌≡◌, ◌≢◌, ℕ, true, false, not, List}
use Rattle.io_area.specs.Storage.{Storage, bytes_at, lies_in}
use Rattle.io_images.specs.declared.iob.Iob.{Iob}
use Rattle.io_images.specs.Images.{iob_of}
use Rattle.request_piece.specs.declared.error.RequestError.{RequestError}
use Rattle.request_piece.specs.declared.error.RequestError.TheVariants.{IobPlace, EcbPlace, ProgramPlace, DcbMismatch, NoMemory}
use Rattle.request_piece.specs.declared.piece.Name.{Name}
use Rattle.request_piece.specs.declared.piece.Piece.{Piece}
use Rattle.request_piece.specs.Places.{is_ecb_place, is_iob_place, is_program_place}

-- the IOB at an address of the area
abbrev pub iob_at : Storage → ℕ → Iob
iob_at area iob = iob_of (bytes_at area iob 40)

-- the image of an IOB at an address of the area
pub record IsImageAt (area : Storage) (iob : ℕ) (image : List ℕ) : Type 0 where
  pub lies : lies_in area iob 40 ≡ true
  pub bytes : image ≡ bytes_at area iob 40

-- the piece with these fields of its IOB
abbrev pub piece_of : Name → ℕ → ℕ → ℕ → Storage → Iob → Piece
piece_of name unit dcb iob area image = record {
  name = name;
  unit = unit;
  dcb = dcb;
  related = not image.unrelated;
  start = image.start;
  seek = image.seek;
  iob = iob;
  ecb = image.ecb;
  area = area;
}

-- a request: its fields are those of the IOB in the area as issued
abbrev pub request_of : Name → ℕ → ℕ → ℕ → Storage → Piece
request_of name unit dcb iob area = piece_of name unit dcb iob area (iob_at area iob)

-- the IOB, the ECB and the channel program are at valid addresses, and the IOB names the DCB
pub record NoFault (dcb iob : ℕ) (area : Storage) : Type 0 where
  pub iob_place : is_iob_place area iob ≡ true
  pub ecb_place : is_ecb_place area iob (iob_at area iob).ecb ≡ true
  pub program_place : is_program_place area (iob_at area iob).start ≡ true
  pub same_dcb : (iob_at area iob).dcb ≡ dcb

-- when each refusal comes: the first reason that applies
abbrev pub RequestFault : ℕ → ℕ → Storage → RequestError → Type 0
RequestFault dcb iob area IobPlace = is_iob_place area iob ≡ false
RequestFault dcb iob area EcbPlace =
    (is_iob_place area iob ≡ true) × (is_ecb_place area iob (iob_at area iob).ecb ≡ false)
RequestFault dcb iob area ProgramPlace =
    (is_iob_place area iob ≡ true) × (is_ecb_place area iob (iob_at area iob).ecb ≡ true)
    × (is_program_place area (iob_at area iob).start ≡ false)
RequestFault dcb iob area DcbMismatch =
    (is_iob_place area iob ≡ true) × (is_ecb_place area iob (iob_at area iob).ecb ≡ true)
    × (is_program_place area (iob_at area iob).start ≡ true) × ((iob_at area iob).dcb ≢ dcb)
RequestFault dcb iob area NoMemory = NoFault dcb iob area
