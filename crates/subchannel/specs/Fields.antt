-- What the fields of a subchannel say.
use Rattle.std.specs.Prelude.{◌≡◌, ℕ, Option, Some, None}
use Rattle.ccw_programs.specs.declared.context.State.TheVariants as state
use Rattle.subchannel.specs.declared.Phase.{Phase as PhaseField}
use Rattle.subchannel.specs.declared.Phase.TheVariants as field
use Rattle.subchannel.specs.Subchannel.{Phase, Absent, Idle, Running, Pending, Channel}

-- the phase that the field of the code says
abbrev pub phase_told : PhaseField → Phase
phase_told field.Idle = Idle
phase_told (field.Running place) = Running place
phase_told (field.Pending status) = Pending status

-- without a device the subchannel is not operational
abbrev pub phase_with : {D : Type 0} → Option D → PhaseField → Phase
phase_with None phase = Absent
phase_with (Some device) phase = phase_told phase

-- the subchannel of these fields of the code
abbrev pub channel_of : {D : Type 0} → ℕ → Option D → PhaseField → Channel D
channel_of isc device phase = record { isc = isc; device = device; phase = phase_with device phase }

-- a program that runs has not ended
abbrev pub IsRunning : PhaseField → Type 0
IsRunning field.Idle = Unit {0}
IsRunning (field.Running place) = place.state ≡ state.Running
IsRunning (field.Pending status) = Unit {0}
