-- Where the control blocks and the channel program of a request may be (profile).
use Rattle.std.specs.Prelude.{◌≡◌, ℕ, ◌+◌, ◌%◌, ◌==◌, nat_le, Bool, true, ◌&&◌, ◌||◌}
use Rattle.io_area.specs.Storage.{Storage, lies_in}
use Rattle.request_piece.specs.declared.piece.Piece.{Piece}

-- the IOB is on a fullword, and its 40 bytes lie in the area
abbrev pub is_iob_place : Storage → ℕ → Bool
is_iob_place area iob = (iob % 4 == 0) && lies_in area iob 40

-- the ECB is on a fullword, lies in the area and does not overlap the IOB
abbrev pub is_ecb_place : Storage → ℕ → ℕ → Bool
is_ecb_place area iob ecb =
    (ecb % 4 == 0) && lies_in area ecb 4 && (nat_le (ecb + 4) iob || nat_le (iob + 40) ecb)

-- the channel program begins on a doubleword, and its first CCW lies in the area
abbrev pub is_program_place : Storage → ℕ → Bool
is_program_place area start = (start % 8 == 0) && lies_in area start 8

-- the control blocks of a piece are at valid addresses
pub record Placed (r : Piece) : Type 0 where
  pub iob : is_iob_place r.area r.iob ≡ true
  pub ecb : is_ecb_place r.area r.iob r.ecb ≡ true
  pub program : is_program_place r.area r.start ≡ true
