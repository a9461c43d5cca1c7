-- A reel of tape: its size in bytes, and the items on it from the load point on.
use Rattle.std.specs.Prelude.{◌≡◌, ℕ, ◌+◌, ◌≤◌, Bool, nat_le, List, [], ◌∷◌, ◌++◌, length, take, slice_index_or}
use Rattle.device_port.specs.Packed.{image_of, offset_of, HoldsItems}
use Rattle.tape_unit.specs.declared.position.Position.{Position}
use Rattle.tape_unit.specs.Item.{Item, tape_mark, on_tape}

-- A REEL: its size in bytes, and its items
pub record ReelState : Type 0 where
  pub size : ℕ
  pub items : List Item

-- the most bytes that a reel has: 4 GiB
abbrev pub longest_reel : ℕ
longest_reel = 4_294_967_296

-- the item at an index
abbrev pub item_of : List Item → ℕ → Item
item_of items place = slice_index_or items place tape_mark

-- how many bytes the items take, and how many those before an index
abbrev pub bytes_of : List Item → ℕ
bytes_of items = length (image_of on_tape items)

-- how many bytes the items before an index take
abbrev pub bytes_before : List Item → ℕ → ℕ
bytes_before items place = offset_of on_tape items place

-- whether an item with so much data can be at an index: it and the items before the index fit the medium
abbrev pub has_room_at : ReelState → ℕ → ℕ → Bool
has_room_at reel place len = nat_le (bytes_before reel.items place + (4 + len)) reel.size

-- the reel with an item at an index, and none after it
abbrev pub with_item_at : ReelState → ℕ → Item → ReelState
with_item_at reel place x = record { size = reel.size; items = take place reel.items ++ x ∷ [] }

-- a position is on the reel with these items: its offset is the bytes of the items before it
pub record IsOn (items : List Item) (position : Position) : Type 0 where
  pub within : position.place ≤ length items
  pub before : position.offset ≡ bytes_before items position.place

-- the buffer that the code keeps a reel in
pub record HoldsReel (bytes : List ℕ) (used count : ℕ) : Type 0 where
  pub holds : HoldsItems on_tape bytes used count
  pub small : length bytes ≤ longest_reel
