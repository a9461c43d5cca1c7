-- The fault script of a device, and the numbers of its commands (profile).
use Rattle.std.specs.Prelude.{◌≡◌, ◌<◌, ◌≤◌, ℕ, ◌+◌, ◌-◌, ◌^◌, ◌==◌, nat_lt, min, Bool, true, ◌&&◌, ◌||◌, List, [], ◌∷◌, length, take, drop}
use Rattle.std.specs.Prelude.{Option, Some, None, if◌then◌else◌}
use Rattle.std.specs.List.{AllByRecursion}
use Rattle.io_images.specs.Bits.{check_end_status, channel_data_check_bit, channel_control_check_bit, interface_control_check_bit}
use Rattle.device_port.specs.declared.faults.Fault.{Fault}
use Rattle.device_port.specs.declared.answer.Acted.{Acted}
use Rattle.device_port.specs.Sense.{no_sense}

-- the commands that a device was given since it was mounted, and the faults that it is to meet
pub record Ordinals : Type 0 where
  pub script : List Fault
  pub done : ℕ

-- the number of the next command; at its largest it stays
abbrev pub next_ordinal : ℕ → ℕ
next_ordinal done = min (done + 1) (2 ^ 64 - 1)

-- the fault of a script for a command
abbrev pub fault_of : List Fault → ℕ → Option Fault
fault_of [] ordinal = None
fault_of (f ∷ fs) ordinal = if f.ordinal == ordinal then Some f else fault_of fs ordinal

-- THE FAULT THAT THE NEXT COMMAND MEETS; none once the number stays
abbrev pub fault_met : Ordinals → Option Fault
fault_met o = if nat_lt (o.done + 1) (2 ^ 64 - 1) then fault_of o.script (o.done + 1) else None

-- a command uses up its number
abbrev pub counted : Ordinals → Ordinals
counted o = record { script = o.script; done = next_ordinal o.done }

-- the answer of a command that meets a fault
abbrev pub failed : Fault → Acted
failed f = record { unit = f.unit; sub = f.sub; sense = f.sense; want = 0 }

-- the checks of the channel that a device may show: channel data, channel control or interface control check
abbrev pub is_channel_check : ℕ → Bool
is_channel_check sub =
    (sub == channel_data_check_bit) || (sub == channel_control_check_bit) || (sub == interface_control_check_bit)

-- a fault that a device may show: unit check with any sense, or one of those checks without one
abbrev pub is_fault : Fault → Bool
is_fault f =
    ((f.unit.0 == check_end_status) && (f.sub.0 == 0))
    || ((f.unit.0 == 0) && is_channel_check f.sub.0 && (f.sense == no_sense))

-- the faults are such, and their numbers rise from one that is above `last`
abbrev pub are_faults_after : ℕ → List Fault → Bool
are_faults_after last [] = true
are_faults_after last (f ∷ fs) = nat_lt last f.ordinal && is_fault f && are_faults_after f.ordinal fs

-- A FAULT SCRIPT: numbers of at least 1 that rise
abbrev pub is_script : List Fault → Bool
is_script faults = are_faults_after 0 faults

-- a position in a script: the faults before it are those of commands done, and those from it on are ahead
pub record Follows (script : List Fault) (next done : ℕ) : Type 0 where
  pub within : next ≤ length script
  pub passed : AllByRecursion (λ f. f.ordinal ≤ done) (take next script)
  pub ahead : done < 2 ^ 64 - 1 → are_faults_after done (drop next script) ≡ true

-- no command meets a fault before `clear` commands are done
pub record IsClear (script : List Fault) (done clear : ℕ) : Type 0 where
  pub none : (k : ℕ) → done ≤ k → k < clear → fault_met (record { script = script; done = k }) ≡ None
