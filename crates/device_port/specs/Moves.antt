-- Data moved between the parts of a chain and storage, in order (Principles of Operation, chapter 15,
-- "Execution of I/O operations").
use Rattle.std.specs.Prelude.{◌≡◌, ℕ, ◌+◌, ◌-◌, ◌≤◌, nat_le, ◌&&◌, Bool, true, List, [], ◌∷◌, ◌++◌, All, length, sum_by, take, drop}
use Rattle.std.specs.Prelude.{reverse, replicate, if◌then◌else◌}
use Rattle.io_area.specs.Storage.{Storage, lies_in, bytes_at, with_bytes}
use Rattle.device_port.specs.declared.chain.Segment.{Segment}
use Rattle.device_port.specs.declared.kind.Flow.{Flow}
use Rattle.device_port.specs.declared.kind.Flow.TheVariants.{None as NoFlow, Out, Input, Back}

-- the bytes that a chain has room for
abbrev pub total : List Segment → ℕ
total chain = sum_by (λ s. s.count) chain

-- a part lies in the area: from its address upward, or from its address downward where data is read backward
abbrev pub segment_lies : Flow → Storage → Segment → Bool
segment_lies NoFlow m s = true
segment_lies Out m s = lies_in m s.address s.count
segment_lies Input m s = lies_in m s.address s.count
segment_lies Back m s = nat_le s.count (s.address + 1) && lies_in m (s.address + 1 - s.count) s.count

-- each part of the chain does
abbrev pub AllLie : Flow → Storage → List Segment → Type 0
AllLie flow m chain = All (λ s. segment_lies flow m s ≡ true) chain

-- what a device may rely on: where data flows, the chain lies in the area and has room for a byte; where
-- none does, nothing of the chain is looked at
abbrev pub CanAct : Flow → Storage → List Segment → Type 0
CanAct NoFlow m chain = Unit {0}
CanAct Out m chain = AllLie Out m chain × (1 ≤ total chain)
CanAct Input m chain = AllLie Input m chain × (1 ≤ total chain)
CanAct Back m chain = AllLie Back m chain × (1 ≤ total chain)

-- the bytes of storage that a chain gives, part after part
abbrev pub gathered : Storage → List Segment → List ℕ
gathered m [] = []
gathered m (s ∷ ss) = bytes_at m s.address s.count ++ gathered m ss

-- storage after these bytes came in at rising addresses, up to the room that there is; a part with SKIP stays as it
-- is
abbrev pub stored : List Segment → List ℕ → Storage → Storage
stored [] bytes m = m
stored (s ∷ ss) bytes m = stored ss (drop s.count bytes) (if s.skip then m else with_bytes m s.address (take s.count bytes))

-- storage with these bytes at an address and below it, the first at the address
abbrev pub with_bytes_down : Storage → ℕ → List ℕ → Storage
with_bytes_down m address bytes = with_bytes m (address + 1 - length bytes) (reverse bytes)

-- storage after bytes were stored in the parts of a chain at falling addresses
abbrev pub stored_back : List Segment → List ℕ → Storage → Storage
stored_back [] bytes m = m
stored_back (s ∷ ss) bytes m = stored_back ss (drop s.count bytes) (if s.skip then m else with_bytes_down m s.address (take s.count bytes))

-- THE BYTES THAT A PROGRAM GIVES to a command: those of its chain where data flows out
abbrev pub offered : Flow → Storage → List Segment → List ℕ
offered NoFlow m chain = []
offered Out m chain = gathered m chain
offered Input m chain = []
offered Back m chain = []

-- STORAGE AFTER A COMMAND that gave these bytes to the program
abbrev pub received : Flow → List Segment → List ℕ → Storage → Storage
received NoFlow chain bytes m = m
received Out chain bytes m = m
received Input chain bytes m = stored chain bytes m
received Back chain bytes m = stored_back chain bytes m

-- the first n of some bytes, filled up with zeros
abbrev pub padded : ℕ → List ℕ → List ℕ
padded n bytes = take n bytes ++ replicate (n - length bytes) 0

-- an image with these bytes from an offset on
abbrev pub written : List ℕ → ℕ → List ℕ → List ℕ
written image at bytes = take at image ++ (bytes ++ drop (at + length bytes) image)
