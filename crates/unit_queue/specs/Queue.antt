-- Requests that wait.
use Rattle.std.specs.Prelude.{ℕ, List, map, Box, box_value}
use Rattle.request_piece.specs.declared.piece.Piece.{Piece}

-- the requests, the first to arrive in front, and how many there may be
pub record Queue : Type 0 where
  pub pieces : List Piece
  pub capacity : ℕ

abbrev pub queue : List Piece → ℕ → Queue
queue pieces capacity = record { pieces = pieces; capacity = capacity }

-- the pieces in these boxes
abbrev pub pieces_of : {Z : Type 0} → List (Box Piece Z) → List Piece
pieces_of boxes = map box_value boxes
