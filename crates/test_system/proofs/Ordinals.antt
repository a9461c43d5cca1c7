-- Faults at the last numbers that a command may have, computed by the definitions.
use Rattle.std.proofs.Common.{◌≡◌, ℕ, ◌-◌, ◌^◌, [], ◌∷◌, Some, None, true, refl}
use Rattle.device_port.specs.declared.faults.Fault.{Fault}
use Rattle.device_port.specs.Faults.{Ordinals, fault_met, counted, is_script}

-- the last number that there is
abbrev most : ℕ
most = 2 ^ 64 - 1

abbrev fault_at : ℕ → Fault
fault_at ordinal = record { ordinal = ordinal; unit = record { 0 = 0x0E }; sub = record { 0 = 0 }; sense = 0x0800 }

-- faults at the last number and at the one before it, behind so many commands
abbrev behind : ℕ → Ordinals
behind done = record { script = fault_at (most - 1) ∷ fault_at most ∷ []; done = done }

they_are_taken : is_script (behind 0).script ≡ true
they_are_taken = refl

last_but_one_is_met : fault_met (behind (most - 2)) ≡ Some (fault_at (most - 1))
last_but_one_is_met = refl

last_is_not_met : fault_met (behind (most - 1)) ≡ None
last_is_not_met = refl

number_stays : (counted (behind most)).done ≡ most
number_stays = refl
