-- A subchannel: its states, and what its instructions do (Principles of Operation, chapter 14).
use Rattle.std.specs.Prelude.{◌≡◌, ℕ, Bool, true, false, Option, Some, None, min}
use Rattle.io_images.specs.Images.{no_status}
use Rattle.io_images.specs.declared.csw.Csw.{Csw}
use Rattle.io_images.specs.declared.seek.Seek.{Seek}
use Rattle.io_area.specs.Storage.{Storage}
use Rattle.device_port.specs.Meaning.{Meaning, fits}
use Rattle.ccw_programs.specs.declared.context.State.{State}
use Rattle.ccw_programs.specs.declared.context.State.TheVariants as state
use Rattle.ccw_programs.specs.declared.context.Burst.{Burst}
use Rattle.ccw_programs.specs.Place.{Place, halted, start_place}
use Rattle.ccw_programs.specs.Step.{Program, program, after, length_of}
use Rattle.subchannel.specs.declared.Status.{Status}

-- the status of what was never started (profile)
abbrev pub empty_status : Status
empty_status = record { csw = no_status; sense = 0 }

-- no device, idle, running a channel program, or status pending
pub data Phase : Type 0 where
  Absent : Phase
  Idle : Phase
  Running : Place → Phase
  Pending : Status → Phase

-- a subchannel: its interruption subclass, its device if there is one, and its phase
pub record Channel (D : Type 0) : Type 0 where
  pub isc : ℕ
  pub device : Option D
  pub phase : Phase

-- CONDITION CODES by state ("Start Subchannel", "Halt Subchannel", "Test Subchannel"); a halt ends at once
-- (profile), so HSCH never answers 2
abbrev pub ssch_code : Phase → ℕ
ssch_code Absent = 3
ssch_code Idle = 0
ssch_code (Running place) = 2
ssch_code (Pending status) = 1

-- the condition code of HSCH
abbrev pub hsch_code : Phase → ℕ
hsch_code Absent = 3
hsch_code Idle = 0
hsch_code (Running place) = 0
hsch_code (Pending status) = 1

-- the condition code of TSCH
abbrev pub tsch_code : Phase → ℕ
tsch_code Absent = 3
tsch_code Idle = 1
tsch_code (Running place) = 1
tsch_code (Pending status) = 0

-- the status that is pending; what TSCH stores of it; and the phase after TSCH
abbrev pub status_of : Phase → Option Status
status_of Absent = None
status_of Idle = None
status_of (Running place) = None
status_of (Pending status) = Some status

-- the position of the program that runs
abbrev pub place_of : Phase → Option Place
place_of Absent = None
place_of Idle = None
place_of (Running place) = Some place
place_of (Pending status) = None

-- what TSCH stores: the CSW and the sense
abbrev pub stored_pair : Status → Csw × ℕ
stored_pair status = (status.csw, status.sense)

-- the phase after TSCH, which clears a pending status
abbrev pub tested_phase : Phase → Phase
tested_phase Absent = Absent
tested_phase Idle = Idle
tested_phase (Running place) = Running place
tested_phase (Pending status) = Idle

-- whether a status is pending
abbrev pub is_pending : Phase → Bool
is_pending Absent = false
is_pending Idle = false
is_pending (Running place) = false
is_pending (Pending status) = true

-- an idle subchannel that is halted shows the empty status (profile)
abbrev pub halted_phase : Phase → Phase
halted_phase Absent = Absent
halted_phase Idle = Pending empty_status
halted_phase (Running place) = Pending (record { csw = halted place; sense = 0 })
halted_phase (Pending status) = Pending status

-- the phase of a program at a position
abbrev pub phase_of : Place → State → Phase
phase_of place state.Running = Running place
phase_of place (state.Ended csw sense) = Pending (record { csw = csw; sense = sense })

-- the device takes the seek, if there is a device
abbrev pub TakesSeek : {D : Type 0} → Meaning D → Option D → Seek → Type 0
TakesSeek meaning None seek = Unit {0}
TakesSeek meaning (Some d) seek = fits meaning d seek ≡ true

module _ {D : Type 0} (meaning : Meaning D) where
  -- the device after a seek and a file mask, if there is a device
  abbrev pub prefixed : Option D → Seek → ℕ → Option D
  prefixed None seek mask = None
  prefixed (Some d) seek mask = Some (meaning.prefix d seek mask)

  -- SSCH starts a program where the subchannel is idle, and changes nothing elsewhere
  abbrev pub after_ssch : Channel D → ℕ → Seek → ℕ → Phase → Channel D
  after_ssch c start seek mask Idle = record { isc = c.isc; device = prefixed c.device seek mask; phase = Running (start_place start) }
  after_ssch c start seek mask Absent = c
  after_ssch c start seek mask (Running place) = c
  after_ssch c start seek mask (Pending status) = c

  -- the answer counts the command steps of this program: `max`, or all that it has left
  pub record RunsFrom (p : Program D) (isc max : ℕ) (b : Burst) (new : Channel D) (n : Storage) : Type 0 where
    pub channel : new ≡ record {
      isc = isc;
      device = Some (after meaning b.commands p).device;
      phase = phase_of (after meaning b.commands p).place (after meaning b.commands p).place.state;
    }
    pub area : n ≡ (after meaning b.commands p).area
    pub commands : b.commands ≡ min max (length_of meaning p)
    pub state : b.state ≡ (after meaning b.commands p).place.state

-- the program that is running, if one is
abbrev pub running_program : {D : Type 0} → Option D → Phase → Storage → Option (Program D)
running_program None phase m = None
running_program (Some d) Absent m = None
running_program (Some d) Idle m = None
running_program (Some d) (Running place) m = Some (program place d m)
running_program (Some d) (Pending status) m = None

-- `run` returns None if no program runs, and changes nothing
abbrev pub RunsAs : {D : Type 0} → Meaning D → Channel D → Storage → ℕ → Option (Program D) → Option Burst → Channel D → Storage → Type 0
RunsAs meaning old m max None None new n = (new ≡ old) × (n ≡ m)
RunsAs meaning old m max None (Some b) new n = ⊥
RunsAs meaning old m max (Some p) None new n = ⊥
RunsAs meaning old m max (Some p) (Some b) new n = RunsFrom meaning p old.isc max b new n
