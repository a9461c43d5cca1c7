-- THE POSTED VALUES on the way back to the tasks of a unit (profile).
use Rattle.std.specs.Prelude.{ℕ, List, [], ◌∷◌, ◌++◌, drop, slice_index_or, slice_set}
use Rattle.request_piece.specs.PostedState.{PostedState}

-- the values on the way back to each task, in order, and how many there may be for one task
pub record PostLists : Type 0 where
  pub lists : List (List PostedState)
  pub room : ℕ

-- the values on the way back to a task; none to a task that there is not
abbrev pub list_of : List (List PostedState) → ℕ → List PostedState
list_of lists task = slice_index_or lists task []

-- the lists with one more value for a task
abbrev pub with_value : List (List PostedState) → ℕ → PostedState → List (List PostedState)
with_value lists task value = slice_set lists task (list_of lists task ++ value ∷ [])

-- the lists without the first value for a task
abbrev pub without_value : List (List PostedState) → ℕ → List (List PostedState)
without_value lists task = slice_set lists task (drop 1 (list_of lists task))
