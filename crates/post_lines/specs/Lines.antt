-- THE TEXT OF POSTS: a line of each, and then their number (profile).
use Rattle.std.specs.Prelude.{ℕ, ◌+◌, Option, Some, None, List, [], ◌∷◌, ◌++◌, codes}
use Rattle.std.specs.Fmt.{decimal}
use Rattle.std.specs.Int.{bytes_high_first}
use Rattle.post_lines.specs.Digits.{in_digits, shown_text}
use Rattle.io_images.specs.Codes.{code_byte}
use Rattle.post_lines.specs.Slots.{SlotState}
use Rattle.post_lines.specs.declared.end.End.{End}

-- bytes in hexadecimal, and a blank
abbrev pub field : List ℕ → List ℕ
field bytes = in_digits bytes ++ 32 ∷ []

-- how a request ended: the completion code; the address, the status bytes and the residual count of the CSW; the sense bytes
abbrev pub end_text : End → List ℕ
end_text end =
    field (code_byte end.code ∷ [])
    ++ field (bytes_high_first 3 end.csw.address) ++ field (end.csw.unit.0 ∷ end.csw.sub.0 ∷ [])
    ++ field (bytes_high_first 2 end.csw.residual)
    ++ field (bytes_high_first 2 end.sense)

-- the line of a post up to its shown bytes: the numbers of task, unit and request, and how it ended
abbrev pub head_text : ℕ → ℕ → ℕ → End → List ℕ
head_text task unit number end =
    codes "post " ++ decimal task ++ 32 ∷ decimal unit ++ 32 ∷ decimal number ++ 32 ∷ end_text end

-- THE LINE OF A POST, without its line feed
abbrev pub post_text : ℕ → ℕ → ℕ → End → List ℕ → List ℕ
post_text task unit number end shown = head_text task unit number end ++ shown_text shown

-- the line of a post
abbrev pub post_line : ℕ → ℕ → ℕ → End → List ℕ → List ℕ
post_line task unit number end shown = post_text task unit number end shown ++ 10 ∷ []

-- a request that was posted has a line, and one that was not has none
abbrev pub line_if : ℕ → ℕ → ℕ → List ℕ → Option End → List ℕ
line_if task unit number shown None = []
line_if task unit number shown (Some end) = post_line task unit number end shown

abbrev pub slot_line : ℕ → ℕ → ℕ → SlotState → List ℕ
slot_line task unit number slot = line_if task unit number slot.shown slot.end

-- the lines of the requests of a task to a unit, the first of which has this number
abbrev pub unit_text : ℕ → ℕ → ℕ → List SlotState → List ℕ
unit_text task unit number [] = []
unit_text task unit number (slot ∷ slots) = slot_line task unit number slot ++ unit_text task unit (number + 1) slots

-- the lines of the requests of a task to the units from this one on
abbrev pub units_text : ℕ → ℕ → List (List SlotState) → List ℕ
units_text task unit [] = []
units_text task unit (slots ∷ units) = unit_text task unit 1 slots ++ units_text task (unit + 1) units

-- the lines of a task
abbrev pub task_text : ℕ → List (List SlotState) → List ℕ
task_text task units = units_text task 0 units

-- the last line: a number of posts
abbrev pub count_text : ℕ → List ℕ
count_text count = codes "end " ++ decimal count ++ 10 ∷ []
