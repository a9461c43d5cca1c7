-- A bit of a byte that was turned on or off, and the other bits.
use Rattle.std.proofs.Common.{◌≡◌, ℕ, ◌-◌, ◌==◌, Bool, true, false, bit_and, refl, eq-eqb}
use Rattle.std.proofs.lemmas.Nat.{and_assoc, and_or_apart, and_or_self}
use Rattle.std.specs.Int.Bits.{and_zero_r}
use Rattle.io_images.specs.Bits.{is_on}
use Rattle.io_images.specs.Written.{with_bit}

-- the bit itself
pub is_on-same : (bit byte : ℕ) (on : Bool) → (0 == bit) ≡ false → bit_and (255 - bit) bit ≡ 0
    → is_on bit (with_bit bit on byte) ≡ on
is_on-same bit byte true some apart = eq-eqb _ _ (and_or_self bit byte)
is_on-same bit byte false some apart =
    rw (and_assoc bit byte (255 - bit), apart, and_zero_r byte) some

-- another bit
pub is_on-other : (bit other byte : ℕ) (on : Bool) → bit_and other bit ≡ 0 → bit_and (255 - other) bit ≡ bit
    → is_on bit (with_bit other on byte) ≡ is_on bit byte
is_on-other bit other byte true apart kept = rw (and_or_apart bit byte other apart) refl
is_on-other bit other byte false apart kept = rw (and_assoc bit byte (255 - other), kept) refl
