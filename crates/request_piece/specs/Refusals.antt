-- What is wrong with a request that is refused.
use Rattle.std.specs.Prelude.{◌≡◌, ◌≢◌, ℕ, ◌%◌, true, false}
use Rattle.io_area.specs.Storage.{Storage, lies_in}
use Rattle.request_piece.specs.declared.error.RequestError.{RequestError}
use Rattle.request_piece.specs.declared.error.RequestError.TheVariants.{IobPlace, EcbPlace, ProgramPlace, DcbMismatch}
use Rattle.request_piece.specs.declared.request.refusal.Misplaced.{Misplaced}
use Rattle.request_piece.specs.declared.request.refusal.Misplaced.TheVariants.{Unaligned, Outside, OverIob}
use Rattle.request_piece.specs.declared.request.refusal.RequestRefusal.{RequestRefusal}
use Rattle.request_piece.specs.declared.request.refusal.RequestRefusal.TheVariants.{Iob, Ecb, Program, OtherDcb}
use Rattle.request_piece.specs.Requests.{iob_at}

-- the reason that sums it up
abbrev pub reason_of : RequestRefusal → RequestError
reason_of (Iob m) = IobPlace
reason_of (Ecb at m) = EcbPlace
reason_of (Program at m) = ProgramPlace
reason_of (OtherDcb dcb) = DcbMismatch

-- an address is wrong in this way; one that is aligned and in the area overlaps the IOB
abbrev pub IsMisplaced : Storage → ℕ → ℕ → ℕ → Misplaced → Type 0
IsMisplaced area at alignment count Unaligned = at % alignment ≢ 0
IsMisplaced area at alignment count Outside = (at % alignment ≡ 0) × (lies_in area at count ≡ false)
IsMisplaced area at alignment count OverIob = (at % alignment ≡ 0) × (lies_in area at count ≡ true)

-- the IOB at an address of the area is refused for this
abbrev pub IsSo : ℕ → Storage → RequestRefusal → Type 0
IsSo iob area (Iob m) = IsMisplaced area iob 4 40 m
IsSo iob area (Ecb at m) = (at ≡ (iob_at area iob).ecb) × IsMisplaced area at 4 4 m
IsSo iob area (Program at m) = (at ≡ (iob_at area iob).start) × IsMisplaced area at 8 8 m
IsSo iob area (OtherDcb dcb) = dcb ≡ (iob_at area iob).dcb
