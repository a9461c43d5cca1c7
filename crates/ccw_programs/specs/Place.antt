-- The position of a channel program between two commands (Principles of Operation, chapters 15 and 16).
use Rattle.std.specs.Prelude.{ℕ, ◌+◌, ◌%◌, ◌^◌}
use Rattle.io_images.specs.Bits.{normal_end_status, program_check_bit}
use Rattle.io_images.specs.declared.csw.Csw.{Csw}
use Rattle.ccw_programs.specs.declared.context.State.{State}
use Rattle.ccw_programs.specs.declared.context.State.TheVariants.{Running, Ended}

-- the address of the next CCW, the CCWs fetched in this attempt, the CCW address and the residual count
-- that the last command stored, and whether the program runs or has ended
pub record Place : Type 0 where
  pub next : ℕ
  pub fetched : ℕ
  pub address : ℕ
  pub residual : ℕ
  pub state : State

-- the start of an attempt
abbrev pub start_place : ℕ → Place
start_place start = record { next = start; fetched = 0; address = start; residual = 0; state = Running }

-- a program that goes on at an address, of which one CCW was fetched, and nothing else is known
abbrev pub later_place : ℕ → Place
later_place next = record { next = next; fetched = 1; address = 0; residual = 0; state = Running }

-- the program has ended with this status
abbrev pub ended_place : Place → Csw → ℕ → Place
ended_place place csw sense =
    record { next = place.next; fetched = place.fetched; address = csw.address; residual = csw.residual; state = Ended csw sense }

-- the address that is stored for a CCW
abbrev pub stored_address : ℕ → ℕ
stored_address at = (at + 8) % 2 ^ 24

-- the program has ended with a program check (chapter 16, "Program Check") of the CCW at an address
abbrev pub checked_place : Place → ℕ → Place
checked_place place at =
    ended_place place (record {
      address = stored_address at;
      unit = record { 0 = 0 };
      sub = record { 0 = program_check_bit };
      residual = 0;
    }) 0

-- THE STATUS AFTER A HALT (profile): channel end and device end, with the CCW address and the residual count
-- of the last command step done, or the start and 0 if there was none
abbrev pub halted : Place → Csw
halted place =
    record { address = place.address; unit = record { 0 = normal_end_status }; sub = record { 0 = 0 }; residual = place.residual }
