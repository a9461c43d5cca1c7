-- A register and its ends, as contracts see them.
use Rattle.std.specs.Prelude.{◌≡◌, ◌<◌, ◌==◌, ℕ, List, [], ◌∷◌, length, Bool, Some, slice_get, if◌then◌else◌}
use Rattle.atomic_table.specs.Seated.{TableId}

-- which register it is
abbrev pub RegisterName : Type 0
RegisterName = TableId

abbrev pub no_name : RegisterName
no_name = record { words = 0; slots = 0; views_name = 0; atom = 0; block = 0; offset = 0; slot_names = [] }

-- what number k signed of a list of signed items, in order
unfoldable pub signed_by : {I : Type 0} → ℕ → List (ℕ × I) → List I
signed_by k [] = []
signed_by k (x ∷ xs) = if x.0 == k then x.1 ∷ signed_by k xs else signed_by k xs

-- the items alone
unfoldable pub items_of : {I : Type 0} → List (ℕ × I) → List I
items_of [] = []
items_of (x ∷ xs) = x.1 ∷ items_of xs

-- a register before its ends are given out
pub record Blank : Type 0 where
  pub register : RegisterName
  pub pens : ℕ
  pub seated : Bool

-- a pen: its register, its number, and what it signed
pub record Signing (I : Type 0) : Type 0 where
  pub register : RegisterName
  pub number : ℕ
  pub signed : List I

-- the list of a register: all that was signed, each item with the number of its pen
pub record ListState (I : Type 0) : Type 0 where
  pub register : RegisterName
  pub pens : ℕ
  pub all : List (ℕ × I)

abbrev pub fresh_pen : {I : Type 0} → Blank → ℕ → Signing I
fresh_pen r k = record { register = r.register; number = k; signed = [] }

abbrev pub fresh_list : {I : Type 0} → Blank → ListState I
fresh_list r = record { register = r.register; pens = r.pens; all = [] }

-- the ends of a register: its pens by number, and its list
pub record RegisterEnds {I : Type 0} (pens : List (Signing I)) (list : ListState I) (r : Blank) : Type 0 where
  pub count : length pens ≡ r.pens
  pub each : (k : ℕ) → k < r.pens → slice_get pens k ≡ Some (fresh_pen r k)
  pub list_is : list ≡ fresh_list r
