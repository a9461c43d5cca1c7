-- When no area is made, the first reason in this order.
use Rattle.std.specs.Prelude.{◌≡◌, ◌≢◌, ℕ, ◌+◌, ◌%◌, ◌^◌, ◌<◌, ◌≤◌}
use Rattle.io_area.specs.declared.error.AreaError.{AreaError}
use Rattle.io_area.specs.declared.error.AreaError.TheVariants.{Misaligned, TooLong, PastTop, NoMemory}

-- the address and the number of bytes are allowed
abbrev pub NoAreaFault : ℕ → ℕ → Type 0
NoAreaFault base count = (base % 8 ≡ 0) × (count ≤ 8192) × (base + count ≤ 2 ^ 24)

-- when each refusal comes
abbrev pub AreaFault : ℕ → ℕ → AreaError → Type 0
AreaFault base count Misaligned = base % 8 ≢ 0
AreaFault base count TooLong = (base % 8 ≡ 0) × (8192 < count)
AreaFault base count PastTop = (base % 8 ≡ 0) × (count ≤ 8192) × (2 ^ 24 < base + count)
AreaFault base count NoMemory = NoAreaFault base count
