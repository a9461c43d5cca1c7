-- THE TURNS WITHOUT MEMORY of a worker's calls are counted for each call on each unit alone (profile).
use Rattle.std.specs.Prelude.{◌≡◌, ℕ, ◌+◌, ◌*◌}
use Rattle.excp_system.specs.declared.gate.Point.{Point}
use Rattle.excp_system.specs.declared.gate.Point.TheVariants.{Take, Start, Run, Interrupt, Deliver}

-- the five calls, in order
abbrev pub call_number : Point → ℕ
call_number Take = 0
call_number Start = 1
call_number Run = 2
call_number Interrupt = 3
call_number Deliver = 4

-- where the turns of a call on a unit are counted
abbrev pub place_at : ℕ → Point → ℕ
place_at unit call = unit * 5 + call_number call

-- no other call and no other unit has this index
abbrev pub IsOwnPlace : ℕ → Point → ℕ → Type 0
IsOwnPlace unit point place = (other : ℕ) (call : Point) → place_at other call ≡ place → (other ≡ unit) × (call ≡ point)
