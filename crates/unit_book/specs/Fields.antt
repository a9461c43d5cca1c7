-- WHAT THE FIELDS OF A BOOK SAY: they are those of its trace.
use Rattle.std.specs.Prelude.{◌≡◌, ◌≤◌, ℕ, ◌+◌, ◌-◌, ◌==◌, Bool, true, false, ◌||◌, ◌&&◌, if◌then◌else◌, Option, Some, None, List, [], ◌++◌}
use Rattle.std.specs.Prelude.{length, slice_get}
use Rattle.circular_buffer.specs.Buffer.{Buffer}
use Rattle.std.specs.Box.{with_value}
use Rattle.io_area.specs.Storage.{Storage}
use Rattle.io_images.specs.FileMask.{output_mask}
use Rattle.io_images.specs.declared.extent.Extent.{Extent}
use Rattle.io_images.specs.declared.code.Code.{Code}
use Rattle.io_images.specs.declared.code.Code.TheVariants.{Purged}
use Rattle.device_port.specs.Meaning.{Meaning}
use Rattle.device_port.specs.declared.kind.Kind.{Kind}
use Rattle.subchannel.specs.declared.Status.{Status}
use Rattle.subchannel.specs.Subchannel.{Channel, empty_status, Phase, Absent, Idle, Running, Pending}
use Rattle.recovery.specs.declared.answer.Verdict.{Verdict}
use Rattle.recovery.specs.declared.answer.Verdict.TheVariants.{Retry, Final}
use Rattle.recovery.specs.Verdict.{verdict}
use Rattle.request_piece.specs.PostedState.{PostedState}
use Rattle.request_piece.specs.Places.{Placed}
use Rattle.request_piece.specs.declared.piece.Piece.{Piece}
use Rattle.request_piece.specs.Scope.{covers}
use Rattle.request_piece.specs.declared.scope.Scope.{Scope}
use Rattle.unit_queue.specs.Queue.{Queue, queue}
use Rattle.unit_book.specs.declared.active.Active.{Active}
use Rattle.unit_book.specs.declared.active.Standing.{Standing}
use Rattle.unit_book.specs.declared.active.Standing.TheVariants.{OnChannel, AwaitsRestart}
use Rattle.unit_book.specs.declared.activity.ActivityPhase.{ActivityPhase}
use Rattle.unit_book.specs.declared.activity.ActivityPhase.TheVariants as waits
use Rattle.unit_book.specs.declared.dcb.Dcb.{Dcb}
use Rattle.unit_book.specs.declared.entry.Entry.{Entry}
use Rattle.unit_book.specs.declared.entry.Mode.{Mode}
use Rattle.unit_book.specs.Lists.{Each}
use Rattle.unit_book.specs.Trace.{waiting, active, request_named, starts_of, is_halt, is_halted, is_covered}
use Rattle.unit_book.specs.Media.{ActivePhase, StillRunning, WasHalted, HasEnded, current, active_phase, device}
use Rattle.unit_book.specs.Dcbs.{is_opened, is_closed, extents_of, flag, mask_for, opened_count, opened_for}
use Rattle.unit_book.specs.Legal.{Legal, verdict_of}
use Rattle.unit_book.specs.Posts.{posted}

-- THE ACTIVE REQUEST

abbrev pub awaits_by : Standing → Bool
awaits_by OnChannel = false
awaits_by (AwaitsRestart status) = true

-- the status that is kept of an attempt that is to be tried again
abbrev pub kept_by : Standing → Status
kept_by OnChannel = empty_status
kept_by (AwaitsRestart status) = status

abbrev pub awaits_of : Option Active → Bool
awaits_of None = false
awaits_of (Some a) = awaits_by a.standing

abbrev pub active_field_count : Option Active → ℕ
active_field_count None = 0
active_field_count (Some a) = 1

-- the active request with its storage as it is now
abbrev pub with_area : Active → Storage → Active
with_area a m = record a { piece = with_value a.piece (record a.piece.value { area = m }) }

-- a copy of the active request, in a box of its own
pub record IsSameActive (a copy : Active) : Type 0 where
  pub piece : copy.piece.value ≡ a.piece.value
  pub starts : copy.starts ≡ a.starts
  pub halted : copy.halted ≡ a.halted
  pub covered : copy.covered ≡ a.covered
  pub standing : copy.standing ≡ a.standing

abbrev pub IsSameActivity : Option Active → Option Active → Type 0
IsSameActivity None None = Unit {0}
IsSameActivity None (Some copy) = ⊥
IsSameActivity (Some a) None = ⊥
IsSameActivity (Some a) (Some copy) = IsSameActive a copy

-- a request that is started once more
abbrev pub started_again : Active → Active
started_again a = record { piece = a.piece; starts = a.starts + 1; halted = false; covered = false; standing = OnChannel }

-- the active request after a purge
abbrev pub after_cover : Scope → Mode → Active → Active
after_cover scope mode a = record a { covered = (covers scope a.piece.value && is_halt mode) || a.covered }

-- the phase of a request whose status is pending
abbrev pub pending_phase : Bool → Status → ActivePhase
pending_phase true status = WasHalted status
pending_phase false status = HasEnded status

-- the code of a request that has ended, if it is posted: one that would be tried again is posted only if it
-- is covered
abbrev pub ended_code : Verdict → Bool → Option Code
ended_code (Final code) covered = Some code
ended_code Retry covered = if covered then Some Purged else None

-- the code of a request whose status is pending, if it is posted
abbrev pub pending_code : Kind → Status → ℕ → Bool → Bool → Option Code
pending_code kind status starts halted covered =
    if halted then Some Purged else ended_code (verdict kind status.csw status.sense starts) covered

-- a request on the channel has a program or a status there
abbrev pub ArePhases : Standing → Phase → Type 0
ArePhases (AwaitsRestart status) phase = Unit {0}
ArePhases OnChannel Absent = ⊥
ArePhases OnChannel Idle = ⊥
ArePhases OnChannel (Running place) = Unit {0}
ArePhases OnChannel (Pending status) = Unit {0}

-- what the active request waits for
abbrev pub activity_phase : Standing → Phase → ActivityPhase
activity_phase (AwaitsRestart status) phase = waits.AwaitsRestart status
activity_phase OnChannel (Running place) = waits.Running place
activity_phase OnChannel (Pending status) = waits.Pending status
activity_phase OnChannel Absent = waits.Pending empty_status
activity_phase OnChannel Idle = waits.Pending empty_status

-- THE TABLE OF DCBS

-- the table has a DCB with this number, counted from 1
abbrev pub HasRow : List Dcb → ℕ → Type 0
HasRow table d = (1 ≤ d) × (d ≤ length table)

-- the DCB with a number, counted from 1
abbrev pub dcb_at : List Dcb → ℕ → Option Dcb
dcb_at table d = if d == 0 then None else slice_get table (d - 1)

-- what a trace says of a DCB
abbrev pub dcb_of : ℕ → List Entry → Option Dcb
dcb_of d H =
    if is_opened d H
    then Some (record { method = opened_for d H; extents = extents_of d H; closed = is_closed d H; in_error = flag d H })
    else None

-- the file mask
abbrev pub mask_at : Option Dcb → ℕ
mask_at None = output_mask
mask_at (Some c) = mask_for c.method

-- the extents
abbrev pub extents_at : Option Dcb → List Extent
extents_at None = []
extents_at (Some c) = c.extents

-- the DCB has the flag, if there was such an error
abbrev pub noted : Bool → Option Dcb → Option Dcb
noted error None = None
noted error (Some c) =
    Some (record { method = c.method; extents = c.extents; closed = c.closed; in_error = if error then true else c.in_error })

-- the DCB is closed, if it is this one
abbrev pub shut : Bool → Option Dcb → Option Dcb
shut here None = None
shut here (Some c) = Some (record { method = c.method; extents = c.extents; closed = here || c.closed; in_error = c.in_error })

-- the DCB without its flag
abbrev pub unflagged_row : Dcb → Dcb
unflagged_row c = record { method = c.method; extents = c.extents; closed = c.closed; in_error = false }

-- the DCB loses its flag, if it is this one
abbrev pub unflagged : Bool → Option Dcb → Option Dcb
unflagged here None = None
unflagged here (Some c) =
    Some (record { method = c.method; extents = c.extents; closed = c.closed; in_error = if here then false else c.in_error })

-- THE FIELDS AND THE TRACE

-- the fields of a book beside its active request
pub record BookFields (D : Type 0) : Type 0 where
  pub trace : List Entry
  pub channel : Channel D
  pub waiting : List Piece
  pub dcbs : List Dcb
  pub out : List PostedState

abbrev pub fields_of : {D : Type 0} → List Entry → Channel D → List Piece → List Dcb → List PostedState → BookFields D
fields_of trace channel waiting dcbs out =
    record { trace = trace; channel = channel; waiting = waiting; dcbs = dcbs; out = out }

module _ {D : Type 0} (meaning : Meaning D) (mounted : D) where
  -- what the subchannel does is what the trace says of the active request
  abbrev pub StandingTies : List Entry → Phase → Active → Standing → Type 0
  StandingTies H Absent a standing = ⊥
  StandingTies H Idle a OnChannel = ⊥
  StandingTies H Idle a (AwaitsRestart status) =
      (active_phase meaning mounted a.piece.value.name H ≡ HasEnded status)
      × (verdict_of meaning mounted a.piece.value.name status H ≡ Retry)
      × (is_covered (request_named a.piece.value.name H) H ≡ false)
  StandingTies H (Running place) a OnChannel =
      (place ≡ (current meaning mounted H).place) × (active_phase meaning mounted a.piece.value.name H ≡ StillRunning)
  StandingTies H (Running place) a (AwaitsRestart status) = ⊥
  StandingTies H (Pending status) a OnChannel =
      active_phase meaning mounted a.piece.value.name H ≡ pending_phase a.halted status
  StandingTies H (Pending status) a (AwaitsRestart kept) = ⊥

  -- the active request: all but its storage is as it arrived
  pub record ActiveTies (H : List Entry) (phase : Phase) (a : Active) : Type 0 where
    pub is : active H ≡ Some a.piece.value.name
    pub request : a.piece.value ≡ record (request_named a.piece.value.name H) { area = (current meaning mounted H).area }
    pub placed : Placed a.piece.value
    pub starts : a.starts ≡ starts_of a.piece.value.name H
    pub halted : a.halted ≡ is_halted a.piece.value.name H
    pub covered : a.covered ≡ is_covered (request_named a.piece.value.name H) H
    pub standing : StandingTies H phase a a.standing

  abbrev pub ActivityTies : List Entry → Phase → Option Active → Type 0
  ActivityTies H phase None = (active H ≡ None) × (phase ≡ Idle)
  ActivityTies H phase (Some a) = ActiveTies H phase a

  pub record Ties (held : BookFields D) (busy : Option Active) : Type 0 where
    pub legal : Legal meaning mounted held.trace
    pub queue : held.waiting ≡ waiting held.trace
    pub placed : Each Placed held.waiting
    pub device : held.channel.device ≡ Some (device meaning mounted held.trace)
    pub activity : ActivityTies held.trace held.channel.phase busy
    pub count : length held.dcbs ≡ opened_count held.trace
    pub dcbs : (d : ℕ) → dcb_at held.dcbs d ≡ dcb_of d held.trace
    pub out : (given : List PostedState) × (given ++ held.out ≡ posted meaning mounted held.trace)

-- the room that the book was made with
pub record Rooms (busy : Option Active) (waiters swept : Queue) (outs : Buffer PostedState) : Type 0 where
  pub occupancy : length waiters.pieces + active_field_count busy + length outs.items ≤ outs.capacity
  pub waiting_room : waiters.capacity ≡ outs.capacity
  pub swept_is : swept ≡ queue [] outs.capacity
