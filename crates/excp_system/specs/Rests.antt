-- WHICH UNITS A WORKER SKIPS (profile). An idle unit is skipped in some passes of the worker over its units.
use Rattle.std.specs.Prelude.{◌≡◌, ◌≤◌, ℕ, List, slice_index_or}

-- how many passes a unit sits out from now on
abbrev pub rest_of : List ℕ → ℕ → ℕ
rest_of passes unit = slice_index_or passes unit 0

-- no unit sits out more than 32 passes
abbrev pub AreShort : List ℕ → Type 0
AreShort passes = (unit : ℕ) → rest_of passes unit ≤ 32

-- no unit sits out a pass
abbrev pub AreDue : List ℕ → Type 0
AreDue passes = (unit : ℕ) → rest_of passes unit ≡ 0
