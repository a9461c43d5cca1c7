-- Storage as contracts see it: the address of its first byte, and its bytes.
use Rattle.std.specs.Prelude.{◌≡◌, ℕ, ◌+◌, ◌-◌, ◌≤◌, ◌==◌, nat_le, ◌&&◌, ◌||◌, Bool, true, List, length, take, drop, ◌++◌}

-- the address of the first byte, and the bytes
pub record Storage : Type 0 where
  pub base : ℕ
  pub bytes : List ℕ

-- the bytes from `at`, `count` of them, lie in the area; no byte lies in every area
abbrev pub lies_in : Storage → ℕ → ℕ → Bool
lies_in m at count = (count == 0) || (nat_le m.base at && nat_le (at + count) (m.base + length m.bytes))

-- the `count` bytes from `at`
abbrev pub bytes_at : Storage → ℕ → ℕ → List ℕ
bytes_at m at count = take count (drop (at - m.base) m.bytes)

-- the area with these bytes written from `at`
abbrev pub with_bytes : Storage → ℕ → List ℕ → Storage
with_bytes m at new = record {
  base = m.base;
  bytes = take (at - m.base) m.bytes ++ new ++ drop (at - m.base + length new) m.bytes;
}

-- the offset of `count` bytes from `at` among the bytes of the area, if they are in it
pub record IsOffset (m : Storage) (at count from : ℕ) : Type 0 where
  pub lies : lies_in m at count ≡ true
  pub offset : from + m.base ≡ at
  pub room : from + count ≤ length m.bytes

-- the bytes may differ, the address and the length do not
pub record SamePlace (old new : Storage) : Type 0 where
  pub base : new.base ≡ old.base
  pub len : length new.bytes ≡ length old.bytes
