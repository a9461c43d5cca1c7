-- THE SLOTS of the requests of a task.
use Rattle.std.specs.Prelude.{◌≡◌, ℕ, zero, suc, ◌+◌, ◌-◌, ◌==◌, if◌then◌else◌, Option, Some, None, List, [], ◌∷◌, ◌++◌, length, map, replicate}
use Rattle.std.specs.Prelude.{Bool, Vec, is_some, option_and_then, slice_get}
use Rattle.std.specs.declared.alloc.Global.{Global}
use Rattle.io_area.specs.Storage.{Storage, bytes_at, lies_in}
use Rattle.request_piece.specs.PostedState.{PostedState}
use Rattle.post_lines.specs.declared.end.End.{End}
use Rattle.post_lines.specs.declared.slot.PostSlot.{PostSlot}
use Rattle.post_lines.specs.declared.slots.Slots.{Slots}

-- what a slot holds
pub record SlotState : Type 0 where
  pub show : ℕ
  pub shown : List ℕ
  pub end : Option End

abbrev pub slot_of : PostSlot → SlotState
slot_of slot = record { show = slot.show; shown = slot.shown.items; end = slot.end }

abbrev pub slots_of : Slots → List (List SlotState)
slots_of slots = map (λ of_unit. map slot_of of_unit.items) slots.units.items

-- its request was posted
abbrev pub is_filled : PostSlot → Bool
is_filled slot = is_some (slot_of slot).end

-- a slot that waits
abbrev pub waiting_slot : ℕ → ℕ → SlotState
waiting_slot show len = record { show = show; shown = replicate len 0; end = None }

-- how a posted request ended
abbrev pub posted_end : PostedState → End
posted_end p = record { code = p.code; csw = p.csw; sense = p.sense }

-- the bytes of an area that are shown
abbrev pub shown_in : Storage → ℕ → ℕ → List ℕ
shown_in area show len = if lies_in area show len then bytes_at area show len else []

-- the slot with a post, if it waits
abbrev pub filled_by : PostedState → SlotState → Option End → SlotState
filled_by p slot None = record slot { shown = shown_in p.area slot.show (length slot.shown); end = Some (posted_end p) }
filled_by p slot (Some end) = slot

abbrev pub filled_slot : PostedState → SlotState → SlotState
filled_slot p slot = filled_by p slot slot.end

-- the k-th of a list, from 0, changed
abbrev pub change : {X : Type 0} → (X → X) → ℕ → List X → List X
change f k [] = []
change f zero (x ∷ xs) = f x ∷ xs
change f (suc k) (x ∷ xs) = x ∷ change f k xs

-- the n-th of a list, from 1, changed
abbrev pub change_from_1 : {X : Type 0} → (X → X) → ℕ → List X → List X
change_from_1 f zero xs = xs
change_from_1 f (suc k) xs = change f k xs

-- the slots of a unit with a post, by its number from 1
abbrev pub filled_unit : PostedState → List SlotState → List SlotState
filled_unit p slots = change_from_1 (filled_slot p) p.name.seq slots

abbrev pub filled : ℕ → PostedState → List (List SlotState) → List (List SlotState)
filled unit p slots = change (filled_unit p) unit slots

-- the slots with one more request that waits
abbrev pub expected : ℕ → ℕ → ℕ → List (List SlotState) → List (List SlotState)
expected unit show len slots = change (λ of_unit. of_unit ++ waiting_slot show len ∷ []) unit slots

-- the slot of a request to a unit, by its number from 1
abbrev pub slot_at : Vec (Vec PostSlot Global) Global → ℕ → ℕ → Option PostSlot
slot_at units unit number =
    option_and_then (λ of_unit. if number == 0 then None else slice_get of_unit.items (number - 1)) (slice_get units.items unit)

-- the slots with these posts, one after another, each at its unit
abbrev pub filled_by_all : List PostedState → List (List SlotState) → List (List SlotState)
filled_by_all [] slots = slots
filled_by_all (p ∷ ps) slots = filled_by_all ps (filled p.unit p slots)
