use Rattle.std.proofs.Common.{◌≡◌, ◌+◌, ◌∷◌, [], List, false, true, length, sym, ap, ◌∙◌, arith}
use Rattle.std.specs.Str.{bytes_eq}
use Rattle.tape_unit.specs.Item.{Item, content_of}
use Rattle.aws_tape.specs.Writing.{common}
use Rattle.aws_tape.proofs.Written.{common_end, common_none, common_step, common_other}
use Rattle.aws_tape.proofs.writer.common.Goals as goal

pub loop-place-preserved : goal.loop-place-preserved
loop-place-preserved c =
    let x = c.in-Some.item in
    let y = c.in-Some-next.other in
    let xs = c.next.new.self.iter in
    let ys = c.next-in-loop-place.new.self in
    let h = (c.in-Some.ensures {u = tt}).steps in
    let others : c.loop-place.others ≡ y ∷ ys = (c.in-Some-next.ensures {u = tt}).steps in
    let same : bytes_eq (content_of x) (content_of y) ≡ true = sym c.is_same.ensures ∙ c.if-not-is_same.false in
    let step : common c.loop-place.place-iterator.iter c.loop-place.others ≡ 1 + common xs ys =
    ap (λ (l : List Item). common l c.loop-place.others) h.0 ∙ ap (common (x ∷ xs)) others ∙ common_step x y xs ys same in
    let i = c.loop-place.invariant in
    record { same = omega (arith, i.same, step, h.2); most = omega (arith, i.most, ap length h.0, h.2) }

pub returns-in_default : goal.returns-in_default
returns-in_default c =
    let h = (c.in-Some.ensures {u = tt}).steps in
    let none : c.loop-place.others ≡ [] = (c.in_default.ensures {u = tt}).steps.0 in
    let i = c.loop-place.invariant in
    omega (arith, h.1, i.same, common_none c.loop-place.place-iterator.iter c.loop-place.others (ap length none))

pub returns-then-not-is_same : goal.returns-then-not-is_same
returns-then-not-is_same c =
    let x = c.in-Some.item in
    let y = c.in-Some-next.other in
    let xs = c.next.new.self.iter in
    let ys = c.next-in-loop-place.new.self in
    let h = (c.in-Some.ensures {u = tt}).steps in
    let others : c.loop-place.others ≡ y ∷ ys = (c.in-Some-next.ensures {u = tt}).steps in
    let other : bytes_eq (content_of x) (content_of y) ≡ false = sym c.is_same.ensures ∙ c.if-not-is_same.true in
    let step : common c.loop-place.place-iterator.iter c.loop-place.others ≡ 0 =
    ap (λ (l : List Item). common l c.loop-place.others) h.0 ∙ ap (common (x ∷ xs)) others ∙ common_other x y xs ys other in
    let i = c.loop-place.invariant in
    omega (arith, i.same, step, h.1)

pub returns : goal.returns
returns c =
    let h = (c.in-None.ensures {u = tt}).steps in
    let none : length c.loop-place.place-iterator.iter ≡ 0 = ap length h.0.0 in
    let i = c.loop-place.invariant in
    omega (arith, i.same, i.most, none, common_end c.loop-place.place-iterator.iter c.loop-place.others none)
