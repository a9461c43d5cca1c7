-- DEVICE AND STORAGE of a trace: what the attempts in it did, one after another (profile).
use Rattle.std.specs.Prelude.{ℕ, ◌+◌, Bool, true, false, if◌then◌else◌, List, [], ◌∷◌}
use Rattle.io_area.specs.Storage.{Storage}
use Rattle.device_port.specs.Meaning.{Meaning}
use Rattle.ccw_programs.specs.declared.context.State.{State}
use Rattle.ccw_programs.specs.declared.context.State.TheVariants.{Running, Ended}
use Rattle.ccw_programs.specs.Place.{Place, halted}
use Rattle.ccw_programs.specs.Step.{Program, begun, after}
use Rattle.subchannel.specs.declared.Status.{Status}
use Rattle.request_piece.specs.declared.piece.Name.{Name}
use Rattle.request_piece.specs.declared.piece.Piece.{Piece}
use Rattle.unit_book.specs.declared.entry.Entry.{Entry}
use Rattle.unit_book.specs.declared.entry.Entry.TheVariants.{Start, Ran}
use Rattle.unit_book.specs.Trace.{same, request_named, is_halted, no_request}
use Rattle.unit_book.specs.Dcbs.{mask_of}

-- AN ATTEMPT: a Start of a request, with the file mask of its DCB, and the number of commands that ran
-- between it and the next Start of the name
pub record Attempt : Type 0 where
  pub request : Piece
  pub mask : ℕ
  pub commands : ℕ

-- j more commands in the last attempt of the name
abbrev pub lengthened : Name → ℕ → List Attempt → List Attempt
lengthened n j [] = []
lengthened n j (a ∷ rest) =
    if same a.request.name n
    then record { request = a.request; mask = a.mask; commands = a.commands + j } ∷ rest
    else a ∷ lengthened n j rest

-- the attempts of a trace, newest first
unfoldable pub attempts : List Entry → List Attempt
attempts [] = []
attempts (Start n ∷ H) = record { request = request_named n H; mask = mask_of (request_named n H).dcb H; commands = 0 } ∷ attempts H
attempts (Ran n j ∷ H) = lengthened n j (attempts H)
attempts (_ ∷ H) = attempts H

-- a device, and the storage of each request
pub record Stand (D : Type 0) : Type 0 where
  pub device : D
  pub area : Piece → Storage

-- THE PHASE of the active request: its program is running, was halted, or has ended, the last two with a status
pub data ActivePhase : Type 0 where
  StillRunning : ActivePhase
  WasHalted : Status → ActivePhase
  HasEnded : Status → ActivePhase

abbrev pub active_phase_by : Bool → Place → State → ActivePhase
active_phase_by true place state = WasHalted (record { csw = halted place; sense = 0 })
active_phase_by false place Running = StillRunning
active_phase_by false place (Ended csw sense) = HasEnded (record { csw = csw; sense = sense })

abbrev pub still_runs : ActivePhase → Bool
still_runs StillRunning = true
still_runs (WasHalted status) = false
still_runs (HasEnded status) = false

module _ {D : Type 0} (meaning : Meaning D) (mounted : D) where
  -- the program of an attempt before its first command: the prefix, then IOBSTART, on the device and the storage at
  -- that time
  abbrev pub beginning : Stand D → Attempt → Program D
  beginning s a = begun a.request.start (meaning.prefix s.device a.request.seek a.mask) (s.area a.request)

  -- the program of an attempt after its commands
  abbrev pub reached : Stand D → Attempt → Program D
  reached s a = after meaning a.commands (beginning s a)

  -- the device and the areas after these attempts, newest first
  unfoldable pub stand : List Attempt → Stand D
  stand [] = record { device = mounted; area = λ r. r.area }
  stand (a ∷ rest) = record {
    device = (reached (stand rest) a).device;
    area = λ r. if same r.name a.request.name then (reached (stand rest) a).area else (stand rest).area r;
  }

  -- THE DEVICE of a trace
  abbrev pub device : List Entry → D
  device H = (stand (attempts H)).device

  -- THE STORAGE of a request
  abbrev pub area : Piece → List Entry → Storage
  area r H = (stand (attempts H)).area r

  -- the program of the newest attempt, which in a legal trace is that of the active request
  unfoldable pub newest : List Attempt → Program D
  newest [] = begun 0 mounted no_request.area
  newest (a ∷ rest) = reached (stand rest) a

  abbrev pub current : List Entry → Program D
  current H = newest (attempts H)

  -- PHASE AND STATUS of the active request. The status after a halt is what HALT SUBCHANNEL stores
  abbrev pub active_phase : Name → List Entry → ActivePhase
  active_phase n H = active_phase_by (is_halted n H) (current H).place (current H).place.state
