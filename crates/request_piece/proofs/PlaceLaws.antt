-- A piece keeps its places while its area keeps its base and its length.
use Rattle.io_area.specs.Storage.{SamePlace, Storage}
use Rattle.request_piece.specs.declared.piece.Piece.{Piece}
use Rattle.request_piece.specs.Places.{Placed}

-- the piece over another storage of the same place
pub placed-same : (r : Piece) (m : Storage) → SamePlace r.area m → Placed r → Placed (record r { area = m })
placed-same r m same placed = record {
  iob = rw (same.base, same.len) placed.iob;
  ecb = rw (same.base, same.len) placed.ecb;
  program = rw (same.base, same.len) placed.program;
}
