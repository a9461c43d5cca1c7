-- Worked rows, by computation: the definitions against small tapes.
use Rattle.std.proofs.Common.{◌≡◌, ℕ, List, [], ◌∷◌, refl}
use Rattle.device_port.specs.declared.faults.Fault.{Fault}
use Rattle.device_port.specs.declared.answer.Acted.{Acted}
use Rattle.device_port.specs.Answers.{normal_end, unit_check, unit_exception, rejected}
use Rattle.tape_unit.specs.Item.{Item, tape_mark, block}
use Rattle.tape_unit.specs.Tape.{TapeState, act}

-- a tape of so many bytes at its load point
abbrev mounted : ℕ → List Item → List Fault → TapeState
mounted size items faults =
    record { reel = record { size = size; items = items }; place = 0; ordinals = record { script = faults; done = 0 } }

abbrev three : List ℕ
three = 0xC1 ∷ 0xC2 ∷ 0xC3 ∷ []

abbrev four : List ℕ
four = 1 ∷ 2 ∷ 3 ∷ 4 ∷ []

-- a block and a tape mark
abbrev fixture : TapeState
fixture = mounted 64 (block three ∷ tape_mark ∷ []) []

-- the tape after a command that is given no byte
abbrev after : TapeState → ℕ → TapeState
after tape code = (act tape code []).device

abbrev ends : TapeState → ℕ → Acted
ends tape code = (act tape code []).acted

reads_a_block_a_mark_and_the_end :
    (ends fixture 0x02 ≡ normal_end 3)
    × ((act fixture 0x02 []).bytes ≡ three)
    × (ends (after fixture 0x02) 0x02 ≡ unit_exception 0)
    × (ends (after (after fixture 0x02) 0x02) 0x02 ≡ unit_check 0x1000)
reads_a_block_a_mark_and_the_end = (refl, refl, refl, refl)

reads_backward :
    (ends (after fixture 0x02) 0x0C ≡ normal_end 3)
    × ((act (after fixture 0x02) 0x0C []).bytes ≡ 0xC3 ∷ 0xC2 ∷ 0xC1 ∷ [])
    × (ends fixture 0x0C ≡ rejected)
reads_backward = (refl, refl, refl)

-- a tape of 12 bytes takes one block of four, and a tape mark behind it
abbrev written : TapeState
written = (act (mounted 12 [] []) 0x01 four).device

fills_the_medium :
    ((act (mounted 12 [] []) 0x01 four).acted ≡ normal_end 4)
    × ((act written 0x01 four).acted ≡ unit_check 0x1000)
    × (written.reel.items ≡ block four ∷ [])
    × (ends written 0x1F ≡ normal_end 0)
    × ((after written 0x1F).reel.items ≡ block four ∷ tape_mark ∷ [])
    × (ends (after written 0x1F) 0x1F ≡ unit_check 0x1000)
fills_the_medium = (refl, refl, refl, refl, refl, refl)

-- a write erases what stands behind it
erases_what_follows : (after fixture 0x1F).reel.items ≡ tape_mark ∷ []
erases_what_follows = refl

backspaces_not_past_the_load_point : (ends fixture 0x27 ≡ rejected) × (ends (after (after fixture 0x02) 0x02) 0x27 ≡ unit_exception 0)
backspaces_not_past_the_load_point = (refl, refl)

spaces_over_files :
    let end = after fixture 0x3F in
    (ends fixture 0x3F ≡ normal_end 0) × (end.place ≡ 2) × (ends end 0x3F ≡ unit_check 0x1000) × (ends end 0x2F ≡ normal_end 0)
    × ((after end 0x2F).place ≡ 1) × (ends (after end 0x2F) 0x2F ≡ rejected)
    × ((after (after end 0x2F) 0x2F).place ≡ 0) × ((after end 0x07).place ≡ 0)
spaces_over_files = (refl, refl, refl, refl, refl, refl, refl, refl)

-- a fault at the first command, and none at the second
abbrev check_at_first : Fault
check_at_first = record { ordinal = 1; unit = record { 0 = 0x0E }; sub = record { 0 = 0 }; sense = 0x0800 }

meets_a_fault :
    let met = act (mounted 64 (block three ∷ []) (check_at_first ∷ [])) 0x02 [] in
    (met.acted ≡ unit_check 0x0800) × (met.device.place ≡ 0) × (ends met.device 0x02 ≡ normal_end 3)
meets_a_fault = (refl, refl, refl)
