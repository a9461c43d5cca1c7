-- Worked rows, by computation: the definitions against a printer of few lines and pages.
use Rattle.std.proofs.Common.{◌≡◌, ℕ, List, [], ◌∷◌, replicate, refl}
use Rattle.device_port.specs.declared.answer.Acted.{Acted}
use Rattle.device_port.specs.declared.faults.Fault.{Fault}
use Rattle.device_port.specs.Answers.{normal_end, unit_check}
use Rattle.line_printer.specs.declared.paper.PaperPosition.{PaperPosition}
use Rattle.line_printer.specs.Printer.{PrinterState, act}
use Rattle.line_printer.specs.Mount.{opening}

abbrev at : ℕ → ℕ → PaperPosition
at page line = record { page = page; line = line }

abbrev four : List ℕ
four = 0xC1 ∷ 0xC2 ∷ 0xC3 ∷ 0xC4 ∷ []

-- room for two lines, and paper of two pages
abbrev fixture : PrinterState
fixture = opening 2 2 []

abbrev after : PrinterState → ℕ → List ℕ → PrinterState
after printer code given = (act printer code given).device

abbrev ends : PrinterState → ℕ → List ℕ → Acted
ends printer code given = (act printer code given).acted

prints_a_line :
    (ends fixture 0x09 four ≡ normal_end 4)
    × ((after fixture 0x09 four).printed ≡ record { at = at 1 1; bytes = four } ∷ [])
    × ((after fixture 0x09 four).at ≡ at 1 2)
prints_a_line = (refl, refl, refl)

prints_132_columns :
    let given : List ℕ = replicate 133 0 in
    (ends fixture 0x01 given ≡ normal_end 132) × ((after fixture 0x01 given).at ≡ at 1 1)
prints_132_columns = (refl, refl)

moves_behind_a_line :
    ((after fixture 0x11 four).at ≡ at 1 3) × ((after fixture 0x19 four).at ≡ at 1 4) × ((after fixture 0x89 four).at ≡ at 2 1)
moves_behind_a_line = (refl, refl, refl)

moves_at_once : ((after fixture 0x0B []).at ≡ at 1 2) × ((after fixture 0x13 []).at ≡ at 1 3) × ((after fixture 0x1B []).at ≡ at 1 4)
    × ((after fixture 0x8B []).at ≡ at 2 1)
moves_at_once = (refl, refl, refl, refl)

-- the third line of the page's last ones comes on the next page
spaces_over_the_page : (after (record fixture { at = at 1 65 }) 0x1B []).at ≡ at 2 2
spaces_over_the_page = refl

wants_paper :
    let last = after fixture 0x8B [] in
    (ends fixture 0x8B [] ≡ normal_end 0) × (ends last 0x8B [] ≡ unit_check 0x4000) × (ends last 0x89 four ≡ unit_check 0x4000)
    × ((after last 0x89 four).printed ≡ [])
wants_paper = (refl, refl, refl, refl)

-- two lines at one place, and no third one
overprints :
    let two = after (after fixture 0x01 four) 0x01 four in
    (two.printed ≡ record { at = at 1 1; bytes = four } ∷ record { at = at 1 1; bytes = four } ∷ [])
    × (ends two 0x01 four ≡ unit_check 0x4000) × (ends two 0x0B [] ≡ normal_end 0)
overprints = (refl, refl, refl)

-- a fault at the first command, and none at the second
abbrev check_at_first : Fault
check_at_first = record { ordinal = 1; unit = record { 0 = 0x0E }; sub = record { 0 = 0 }; sense = 0x1000 }

meets_a_fault :
    let met = act (opening 2 2 (check_at_first ∷ [])) 0x09 four in
    (met.acted ≡ unit_check 0x1000) × (met.device.printed ≡ []) × (ends met.device 0x09 four ≡ normal_end 4)
meets_a_fault = (refl, refl, refl)
