-- What a post writes, last of all (DFSMSdfp Advanced Services, "Input/Output Block Fields" and "Event Control
-- Block Fields"; that IOBIOERR is on for every code but 7F is the profile's).
use Rattle.std.specs.Prelude.{ℕ, List}
use Rattle.io_area.specs.Storage.{Storage, bytes_at, with_bytes}
use Rattle.io_images.specs.declared.code.Code.{Code}
use Rattle.io_images.specs.declared.csw.Csw.{Csw}
use Rattle.io_images.specs.Codes.{code_byte, posted_ecb, sets_io_error}
use Rattle.io_images.specs.Images.{iob_of}
use Rattle.io_images.specs.Written.{ecb_image, iob_image}
use Rattle.request_piece.specs.declared.piece.Piece.{Piece}
use Rattle.request_piece.specs.PostedState.{PostedState}

-- an IOB with sense, completion code, CSW and IOBIOERR written; all else is as it was
abbrev pub posted_iob : Code → Csw → ℕ → List ℕ → List ℕ
posted_iob code csw sense old =
    iob_image
    (record (iob_of old) { io_error = sets_io_error code; sense = sense; completion = code_byte code; csw = csw })
    old

-- the area of a request that was posted: its IOB and its ECB are written
abbrev pub final : Piece → Code → Csw → ℕ → Storage
final r code csw sense =
    with_bytes (with_bytes r.area r.iob (posted_iob code csw sense (bytes_at r.area r.iob 40))) r.ecb
    (ecb_image (posted_ecb code))

-- the posted value of a request that has ended so
abbrev pub posted_of : Piece → Code → Csw → ℕ → PostedState
posted_of r code csw sense = record {
  name = r.name;
  unit = r.unit;
  dcb = r.dcb;
  code = code;
  csw = csw;
  sense = sense;
  area = final r code csw sense;
}
