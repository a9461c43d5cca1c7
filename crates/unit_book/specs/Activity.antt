-- THE ACTIVE REQUEST as a book tells of it.
use Rattle.std.specs.Prelude.{◌≡◌, ℕ, Bool, true, false, Some}
use Rattle.device_port.specs.Meaning.{Meaning}
use Rattle.request_piece.specs.declared.piece.Name.{Name}
use Rattle.request_piece.specs.declared.piece.Piece.{Piece}
use Rattle.unit_book.specs.declared.activity.ActivityPhase.{ActivityPhase}
use Rattle.unit_book.specs.declared.activity.ActivityPhase.TheVariants.{Running, Pending, AwaitsRestart}
use Rattle.unit_book.specs.Book.{Book}
use Rattle.unit_book.specs.Fields.{pending_phase}
use Rattle.unit_book.specs.Media.{StillRunning, HasEnded, current, active_phase}
use Rattle.unit_book.specs.Trace.{active, request_named, starts_of, is_halted, is_covered}

module _ {D : Type 0} (meaning : Meaning D) (b : Book D) where
  -- the program runs at this place, or this status is pending or kept
  abbrev pub IsPhase : Name → ActivityPhase → Type 0
  IsPhase n (Running place) =
      (place ≡ (current meaning b.mounted b.trace).place) × (active_phase meaning b.mounted n b.trace ≡ StillRunning)
  IsPhase n (Pending status) =
      (b.awaits ≡ false) × (active_phase meaning b.mounted n b.trace ≡ pending_phase (is_halted n b.trace) status)
  IsPhase n (AwaitsRestart status) = (b.awaits ≡ true) × (active_phase meaning b.mounted n b.trace ≡ HasEnded status)

  -- the active request with its storage as it is now, how often it was started, whether it was halted and covered by a
  -- purge with Halt since its last start, and what it waits for
  pub record IsActivity (piece : Piece) (starts : ℕ) (halted covered : Bool) (phase : ActivityPhase) : Type 0 where
    pub is : active b.trace ≡ Some piece.name
    pub request : piece ≡ record (request_named piece.name b.trace) { area = (current meaning b.mounted b.trace).area }
    pub started : starts ≡ starts_of piece.name b.trace
    pub was_halted : halted ≡ is_halted piece.name b.trace
    pub was_covered : covered ≡ is_covered (request_named piece.name b.trace) b.trace
    pub phase_is : IsPhase piece.name phase
