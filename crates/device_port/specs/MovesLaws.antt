-- A command that gives no byte leaves storage as it is.
use Rattle.std.specs.Prelude.{◌≡◌, ℕ, ◌+◌, ◌-◌, Bool, true, false, List, [], ◌∷◌, ◌++◌, take, drop, if◌then◌else◌}
use Rattle.std.proofs.Common.{refl, ap, ◌∙◌, add-zero, append_assoc, arith}
use Rattle.std.proofs.lemmas.List.{take-append-drop, take_all, drop_all}
use Rattle.io_area.specs.Storage.{Storage, with_bytes}
use Rattle.device_port.specs.declared.chain.Segment.{Segment}
use Rattle.device_port.specs.declared.kind.Flow.{Flow}
use Rattle.device_port.specs.declared.kind.Flow.TheVariants.{None as NoFlow, Out, Input, Back}
use Rattle.device_port.specs.Moves.{stored, stored_back, received, with_bytes_down}

with_no_bytes : (m : Storage) (at : ℕ) → with_bytes m at [] ≡ m
with_no_bytes m at =
    ap (λ (l : List ℕ). record { base = m.base; bytes = l })
    (append_assoc (take (at - m.base) m.bytes) [] (drop (at - m.base + 0) m.bytes)
    ∙ ap (λ (k : ℕ). take (at - m.base) m.bytes ++ drop k m.bytes) (add-zero (at - m.base)) ∙ take-append-drop (at - m.base) m.bytes)

either_same : (skip : Bool) (m n : Storage) → n ≡ m → (if skip then m else n) ≡ m
either_same true m n e = refl
either_same false m n e = e

pub stored-nothing : (chain : List Segment) (m : Storage) → stored chain [] m ≡ m
stored-nothing [] m = refl
stored-nothing (s ∷ ss) m =
    rw (
      drop_all {X = ℕ} s.count [] (omega arith),
      take_all {A = ℕ} s.count [] (omega arith),
      either_same s.skip m (with_bytes m s.address []) (with_no_bytes m s.address),
    ) (stored-nothing ss m)

pub stored_back-nothing : (chain : List Segment) (m : Storage) → stored_back chain [] m ≡ m
stored_back-nothing [] m = refl
stored_back-nothing (s ∷ ss) m =
    rw (
      drop_all {X = ℕ} s.count [] (omega arith),
      take_all {A = ℕ} s.count [] (omega arith),
      either_same s.skip m (with_bytes_down m s.address []) (with_no_bytes m (s.address + 1 - 0)),
    ) (stored_back-nothing ss m)

pub received-nothing : (flow : Flow) (chain : List Segment) (m : Storage) → received flow chain [] m ≡ m
received-nothing NoFlow chain m = refl
received-nothing Out chain m = refl
received-nothing Input chain m = stored-nothing chain m
received-nothing Back chain m = stored_back-nothing chain m
