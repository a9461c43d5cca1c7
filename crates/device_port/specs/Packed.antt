-- Items packed one after the other in a buffer, whatever they are: a medium's records, blocks or marks (profile).
use Rattle.std.specs.Prelude.{◌≡◌, ℕ, zero, suc, ◌≤◌, List, [], ◌∷◌, ◌++◌, length, take, drop}
use Rattle.std.specs.List.{flat_map, AllByRecursion}

-- how items are spelled: the bytes of an item, the item that bytes begin with, and how many bytes that takes
pub record Spelling (X : Type 0) : Type 1 where
  pub packed : X → List ℕ
  pub item_at : List ℕ → X
  pub size_at : List ℕ → ℕ
  pub Fits : X → Type 0

-- what is spelled is read back, whatever follows
pub record ReadsBack {X : Type 0} (s : Spelling X) : Type 0 where
  pub item : (x : X) (rest : List ℕ) → s.Fits x → s.item_at (s.packed x ++ rest) ≡ x
  pub size : (x : X) (rest : List ℕ) → s.Fits x → s.size_at (s.packed x ++ rest) ≡ length (s.packed x)

-- the bytes of items, one after the other
abbrev pub image_of : {X : Type 0} → Spelling X → List X → List ℕ
image_of s items = flat_map s.packed items

-- how many bytes lie before an index
abbrev pub offset_of : {X : Type 0} → Spelling X → List X → ℕ → ℕ
offset_of s items place = length (image_of s (take place items))

-- the first items of an image
unfoldable pub items_at : {X : Type 0} → Spelling X → ℕ → List ℕ → List X
items_at s zero bytes = []
items_at s (suc n) bytes = s.item_at bytes ∷ items_at s n (drop (s.size_at bytes) bytes)

-- a buffer begins with `count` items, which take `used` of its bytes; what follows them means nothing
pub record HoldsItems {X : Type 0} (s : Spelling X) (bytes : List ℕ) (used count : ℕ) : Type 0 where
  pub within : used ≤ length bytes
  pub packed : take used bytes ≡ image_of s (items_at s count bytes)
  pub fits : AllByRecursion s.Fits (items_at s count bytes)

-- bytes begin with an item
pub record Begins {X : Type 0} (s : Spelling X) (bytes : List ℕ) (x : X) : Type 0 where
  pub fits : s.Fits x
  pub rest : List ℕ
  pub parts : bytes ≡ s.packed x ++ rest
