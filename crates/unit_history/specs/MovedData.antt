-- WHAT IS SHOWN of the bytes that a command moved (profile).
use Rattle.std.specs.Prelude.{◌≡◌, ℕ, ◌+◌, ◌-◌, min, nat_lt, Bool, true, false, Option, Some, None, List, [], ◌∷◌, ◌++◌, length}
use Rattle.std.specs.List.{list_all}
use Rattle.io_area.specs.Storage.{Storage, bytes_at}
use Rattle.device_port.specs.Moves.{segment_lies}
use Rattle.device_port.specs.declared.chain.Segment.{Segment}
use Rattle.device_port.specs.declared.kind.Flow.{Flow}
use Rattle.device_port.specs.declared.kind.Flow.TheVariants.{None as NoFlow, Out, Input, Back}
use Rattle.unit_history.specs.declared.moved.Moved.{Moved}
use Rattle.unit_history.specs.declared.moved.Shown.{Shown}
use Rattle.unit_history.specs.declared.moved.Shown.TheVariants.{Bytes, Skipped, Outside}
use Rattle.unit_history.specs.declared.moved.DataDirection.{DataDirection}
use Rattle.unit_history.specs.declared.moved.DataDirection.TheVariants.{From, To, DownFrom}

-- the most bytes of a command that are shown
abbrev pub most_shown : ℕ
most_shown = 16

-- the direction of a flow
abbrev pub way_of : Option Flow → DataDirection
way_of (Some Out) = From
way_of (Some Input) = To
way_of (Some Back) = DownFrom
way_of (Some NoFlow) = To
way_of None = To

-- the skip flag keeps bytes from storage that a device gives. For bytes that a program gives, to a write or a search, it says
-- nothing (Principles of Operation, chapter 15, "Skipping").
abbrev pub is_kept_out : DataDirection → Segment → Bool
is_kept_out From s = false
is_kept_out To s = s.skip
is_kept_out DownFrom s = s.skip

-- whether the first part is kept from storage
abbrev pub is_first_kept_out : DataDirection → List Segment → Bool
is_first_kept_out way [] = false
is_first_kept_out way (s ∷ ss) = is_kept_out way s

-- a part lies in the area
abbrev pub lies : DataDirection → Storage → Segment → Bool
lies From m s = segment_lies Out m s
lies To m s = segment_lies Input m s
lies DownFrom m s = segment_lies Back m s

-- the first `count` bytes of a part, in the order of their addresses
abbrev pub first_of_part : DataDirection → Storage → Segment → ℕ → List ℕ
first_of_part From m s count = bytes_at m s.address count
first_of_part To m s count = bytes_at m s.address count
first_of_part DownFrom m s count = bytes_at m (s.address + 1 - count) count

-- bytes and those that move after them: a read backward fills lower addresses later
abbrev pub with_later : DataDirection → List ℕ → List ℕ → List ℕ
with_later From first after = first ++ after
with_later To first after = first ++ after
with_later DownFrom first after = after ++ first

-- these bytes, or none if it is so
abbrev pub unless : Bool → List ℕ → List ℕ
unless true bytes = []
unless false bytes = bytes

-- THE FIRST BYTES that move, at most `most`, as storage has them: those of one part after another, up to the first part that is
-- kept out
unfoldable pub first_moved : DataDirection → Storage → ℕ → List Segment → List ℕ
first_moved way m most [] = []
first_moved way m most (s ∷ ss) =
    unless (is_kept_out way s) (with_later way (first_of_part way m s (min s.count most)) (first_moved way m (most - s.count) ss))

-- a part lies outside the area. The parts of a command that moves bytes do not.
abbrev pub IsOutside : DataDirection → Storage → List Segment → Type 0
IsOutside way m parts = list_all (lies way m) parts ≡ false

-- what is shown of parts: at most `most` bytes
abbrev pub IsShown : DataDirection → Storage → ℕ → List Segment → Shown → Type 0
IsShown way m most parts (Bytes bytes) = (is_first_kept_out way parts ≡ false) × (bytes.items ≡ first_moved way m most parts)
IsShown way m most parts Skipped = is_first_kept_out way parts ≡ true
IsShown way m most parts Outside = (is_first_kept_out way parts ≡ false) × IsOutside way m parts

-- a number is that of the bytes that are shown
abbrev pub Counts : Shown → ℕ → Type 0
Counts (Bytes bytes) count = count ≡ length bytes.items
Counts Skipped count = Unit {0}
Counts Outside count = Unit {0}

-- the address at which the first part begins
abbrev pub BeginsAt : ℕ → List Segment → Type 0
BeginsAt address [] = ⊥
BeginsAt address (s ∷ ss) = address ≡ s.address

-- there are more bytes than those that are shown
abbrev pub SaysMore : ℕ → Bool → Shown → Type 0
SaysMore count has_more (Bytes bytes) = has_more ≡ nat_lt (length bytes.items) count
SaysMore count has_more Skipped = Unit {0}
SaysMore count has_more Outside = Unit {0}

-- WHAT IS SAID of the bytes that a command moved between a device and these parts of storage, as they are after it
pub record ShowsMoved (flow : Option Flow) (m : Storage) (parts : List Segment) (moved : Moved) : Type 0 where
  pub way : moved.way ≡ way_of flow
  pub address : BeginsAt moved.address parts
  pub bytes : IsShown (way_of flow) m (min most_shown moved.count) parts moved.bytes
  pub more : SaysMore moved.count moved.has_more moved.bytes
