use Rattle.std.proofs.Common.{rules, ◌<◌, length, sym, arith}
use Rattle.std.proofs.lemmas.Int.Digits.{digits_value_more, digits_more}
use Rattle.script_words.proofs.Fronts.{decimal_front}
use Rattle.script_words.proofs.Numbers.{small}
use Rattle.script_words.proofs.front.decimal_until.Goals as goal

pub returns-then-next-ge10 : goal.returns-then-next-ge10
returns-then-next-ge10 c =
    decimal_front c.args.text.now c.split_at.result.1.now c.args.end c.loop-place.place c.loop-place.value
    (omega (arith, c.loop-place-test.true, c.min-place-end.ensures)) (omega (arith, c.if-place-eq0.false))
    (omega (arith, c.loop-place-test.true, c.min-place-end.ensures)) c.if-text-place.false c.split_at.ensures.back
    c.loop-place.invariant.digits c.loop-place.invariant.value

pub overflow_mul-value : goal.overflow_mul-value
overflow_mul-value c =
    omega (
      arith,
      c.loop-place.invariant.value,
      small 10 10 c.args.text.now c.loop-place.place (omega arith) (omega (arith, c.loop-place-test.true, c.min-place-end.ensures))
          c.loop-place.invariant.digits,
    )

pub overflow_add-value : goal.overflow_add-value
overflow_add-value c =
    omega (
      arith,
      c.loop-place.invariant.value,
      small 10 10 c.args.text.now c.loop-place.place (omega arith) (omega (arith, c.loop-place-test.true, c.min-place-end.ensures))
          c.loop-place.invariant.digits,
    )

pub loop-place-preserved : goal.loop-place-preserved
loop-place-preserved c =
    let i = c.loop-place.place in
    let text = c.args.text.now in
    let within : i < length text = omega (arith, c.loop-place-test.true, c.min-place-end.ensures) in
    record {
      digits = digits_more 10 text i within c.loop-place.invariant.digits (rw (sym c.digit-next.ensures) c.if-next-ge10.false);
      value = rw (digits_value_more 10 text i within, sym c.loop-place.invariant.value, sym c.digit-next.ensures) (search rules);
    }
