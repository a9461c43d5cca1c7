use Rattle.std.proofs.Common.{◌≡◌, ◌+◌, ◌++◌, List, ℕ, take, drop, sym, ap, ◌∙◌, append-nil, arith}
use Rattle.std.proofs.lemmas.List.{take-append-drop}
use Rattle.post_lines.proofs.Putting.{in_digits-nil, put_more}
use Rattle.post_lines.proofs.writing.put_digits.Goals as goal

pub loop-number-init : goal.loop-number-init
loop-number-init c =
    let text = c.args.text.now in
    let place = c.args.place in
    let zero_is : place + 0 ≡ place = omega arith in
    sym (ap (λ (l : List ℕ). take place text ++ l ++ drop (place + 0) text) in_digits-nil
    ∙ ap (λ (l : List ℕ). l ++ drop (place + 0) text) (append-nil (take place text))
    ∙ ap (λ (i : ℕ). take place text ++ drop i text) zero_is ∙ take-append-drop place text)

pub loop-number-preserved : goal.loop-number-preserved
loop-number-preserved c =
    put_more c.args.text.now c.loop-number.text c.args.bytes.now c.digits_of.result c.args.place c.loop-number.number c.requires
    c.loop-number-test.true c.loop-number.invariant c.digits_of.ensures
