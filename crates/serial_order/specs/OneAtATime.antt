-- A UNIT THAT SERVES ITS REQUESTS ONE AT A TIME: each to its end before the next. Its DCBs are those of the openings,
-- and are never closed (profile).
use Rattle.std.specs.Prelude.{ℕ, zero, suc, ◌+◌, ◌==◌, Bool, true, false, not, ◌&&◌, ◌||◌, if◌then◌else◌, List, [], ◌∷◌}
use Rattle.io_area.specs.Storage.{Storage}
use Rattle.io_images.specs.Codes.{is_error}
use Rattle.io_images.specs.declared.code.Code.{Code}
use Rattle.io_images.specs.declared.code.Code.TheVariants.{PermanentError, ExtentViolated, Purged}
use Rattle.device_port.specs.Meaning.{Meaning}
use Rattle.device_port.specs.declared.kind.Kind.{Kind}
use Rattle.ccw_programs.specs.declared.context.State.{State}
use Rattle.ccw_programs.specs.declared.context.State.TheVariants.{Running, Ended}
use Rattle.ccw_programs.specs.Step.{Program, begun, after, length_of}
use Rattle.subchannel.specs.declared.Status.{Status}
use Rattle.subchannel.specs.Subchannel.{empty_status}
use Rattle.recovery.specs.declared.answer.Verdict.{Verdict}
use Rattle.recovery.specs.declared.answer.Verdict.TheVariants.{Retry, Final}
use Rattle.recovery.specs.Verdict.{verdict}
use Rattle.request_piece.specs.PostedState.{PostedState}
use Rattle.request_piece.specs.declared.piece.Piece.{Piece}
use Rattle.unit_book.specs.declared.entry.Entry.{Entry}
use Rattle.unit_book.specs.Dcbs.{is_opened, extents_of, mask_of}
use Rattle.unit_book.specs.Extents.{passes_check}
use Rattle.unit_book.specs.Posts.{posted_value}

-- a unit between two requests: its device, and which DCBs have the error flag
pub record IdleUnit (D : Type 0) : Type 0 where
  pub device : D
  pub in_error : ℕ → Bool

-- the result of serving a request: the device after it, and the posted value
pub record Served (D : Type 0) : Type 0 where
  pub device : D
  pub value : PostedState

-- the status of a program that has ended
abbrev pub status_at : State → Status
status_at Running = empty_status
status_at (Ended csw sense) = record { csw = csw; sense = sense }

-- the request is posted without a Start: with this code and a status of zeros
abbrev pub without_start : {D : Type 0} → IdleUnit D → Piece → Code → Served D
without_start u r code = record { device = u.device; value = posted_value r empty_status.csw empty_status.sense code r.area }

-- the request is posted with the status and the storage of its program, which has ended, and this code
abbrev pub with_program : {D : Type 0} → Piece → Program D → Code → Served D
with_program r p code = record {
  device = p.device;
  value = posted_value r (status_at p.place.state).csw (status_at p.place.state).sense code p.area;
}

-- a related request that ends in error sets the flag of its DCB, and nothing clears a flag
abbrev pub flags_after : (ℕ → Bool) → Piece → Code → ℕ → Bool
flags_after in_error r code d = if is_error code && r.related && (r.dcb == d) then true else in_error d

-- the request is turned away: its DCB is not open, or it is related and its DCB has the flag
abbrev pub is_turned_away : {D : Type 0} → List Entry → IdleUnit D → Piece → Bool
is_turned_away openings u r = not (is_opened r.dcb openings) || (r.related && u.in_error r.dcb)

-- the program of an attempt before its first command: at IOBSTART, on the device after the prefix and on this storage
abbrev pub attempt : {D : Type 0} → Meaning D → List Entry → Piece → D → Storage → Program D
attempt meaning openings r device area = begun r.start (meaning.prefix device r.seek (mask_of r.dcb openings)) area

-- a program after its last command
abbrev pub to_end : {D : Type 0} → Meaning D → Program D → Program D
to_end meaning p = after meaning (length_of meaning p) p

-- the verdict on a program that has ended, in the nth attempt, counted from 1
abbrev pub verdict_on : {D : Type 0} → Kind → ℕ → Program D → Verdict
verdict_on kind nth p = verdict kind (status_at p.place.state).csw (status_at p.place.state).sense nth

module _ {D : Type 0} (meaning : Meaning D) (mounted : D) (openings : List Entry) where
  -- the seek address of the request lies in the extents of its DCB
  abbrev pub passes_extents : Piece → Bool
  passes_extents r = passes_check (meaning.kind mounted) (meaning.heads mounted) (extents_of r.dcb openings) r.seek

  -- THE ATTEMPTS of a request: the nth, counted from 1, then at most `left` more, each on the device and the storage as the
  -- one before left them, for as long as the verdict is Retry. Of a last attempt it never is
  unfoldable pub attempts_from : ℕ → ℕ → Piece → Program D → Served D
  attempts_from zero nth r p = elim (verdict_on (meaning.kind mounted) nth (to_end meaning p))
      [ Retry ↦ with_program r (to_end meaning p) PermanentError | Final code ↦ with_program r (to_end meaning p) code ]
  attempts_from (suc left) nth r p = elim (verdict_on (meaning.kind mounted) nth (to_end meaning p)) [
    | Retry ↦ attempts_from left (nth + 1) r
        (attempt meaning openings r (to_end meaning p).device (to_end meaning p).area)
    | Final code ↦ with_program r (to_end meaning p) code
  ]

  -- SERVING A REQUEST: it is turned away with 48, or fails the extent check with 42, or has its first attempt and at most
  -- ten more
  abbrev pub serve : IdleUnit D → Piece → Served D
  serve u r =
      if is_turned_away openings u r then without_start u r Purged
      else if passes_extents r then attempts_from 10 1 r (attempt meaning openings r u.device r.area)
      else without_start u r ExtentViolated

  -- the unit after it has served a request
  abbrev pub unit_after : IdleUnit D → Piece → IdleUnit D
  unit_after u r = record { device = (serve u r).device; in_error = flags_after u.in_error r (serve u r).value.code }

  -- SERVING REQUESTS, one after another: their posted values
  unfoldable pub serve_all : IdleUnit D → List Piece → List PostedState
  serve_all u [] = []
  serve_all u (r ∷ rs) = (serve u r).value ∷ serve_all (unit_after u r) rs

  -- the unit after it has served these requests
  unfoldable pub after_all : IdleUnit D → List Piece → IdleUnit D
  after_all u [] = u
  after_all u (r ∷ rs) = after_all (unit_after u r) rs

  -- a unit that has served nothing: its device is as mounted, and no DCB has the flag
  abbrev pub fresh_unit : IdleUnit D
  fresh_unit = record { device = mounted; in_error = λ d. false }

  -- ONE AT A TIME: the posted values of these requests, in their order
  abbrev pub one_at_a_time : List Piece → List PostedState
  one_at_a_time rs = serve_all fresh_unit rs

  -- the device after it has served these requests
  abbrev pub device_after : List Piece → D
  device_after rs = (after_all fresh_unit rs).device
