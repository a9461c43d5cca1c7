-- Units of which none is at rest.
use Rattle.std.proofs.Common.{◌≡◌, ℕ, zero, suc, replicate, refl, get_or, arith}
use Rattle.excp_system.specs.Rests.{AreDue, AreShort}

zeros : (n unit : ℕ) → get_or {A = ℕ} (replicate n 0) unit 0 ≡ 0
zeros zero unit = refl
zeros (suc n) zero = refl
zeros (suc n) (suc unit) = zeros n unit

pub none_rests : AreDue (replicate 64 0)
none_rests unit = zeros 64 unit

pub are_short : AreShort (replicate 64 0)
are_short unit = let none = none_rests unit in omega (arith, none)
