-- Each call on each unit has a place of its own.
use Rattle.std.proofs.Common.{◌≡◌, ◌<◌, ℕ, zero, suc, refl, sym, ap, ◌∙◌, arith}
use Rattle.excp_system.specs.declared.gate.Point.{Point}
use Rattle.excp_system.specs.declared.gate.Point.TheVariants.{Take, Start, Run, Interrupt, Deliver}
use Rattle.system_threads.specs.Turns.{IsOwnPlace, call_number, place_at}

-- the call with a number
abbrev call_at : ℕ → Point
call_at zero = Take
call_at (suc zero) = Start
call_at (suc (suc zero)) = Run
call_at (suc (suc (suc zero))) = Interrupt
call_at _ = Deliver

call_at-number : (call : Point) → call_at (call_number call) ≡ call
call_at-number Take = refl
call_at-number Start = refl
call_at-number Run = refl
call_at-number Interrupt = refl
call_at-number Deliver = refl

few_calls : (call : Point) → call_number call < 5
few_calls Take = omega arith
few_calls Start = omega arith
few_calls Run = omega arith
few_calls Interrupt = omega arith
few_calls Deliver = omega arith

pub own_place : (unit : ℕ) (point : Point) (place : ℕ) → place ≡ place_at unit point → IsOwnPlace unit point place
own_place unit point place here other call there =
    let few : call_number call < 5 = few_calls call in
    let few_too : call_number point < 5 = few_calls point in
    let numbers : call_number call ≡ call_number point = omega arith in
    (omega arith, sym (call_at-number call) ∙ ap call_at numbers ∙ call_at-number point)
