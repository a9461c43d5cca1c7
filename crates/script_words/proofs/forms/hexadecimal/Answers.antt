use Rattle.std.proofs.Common.{rules, ◌≡◌, take, sym, arith}
use Rattle.std.proofs.lemmas.List.{take_all}
use Rattle.std.proofs.lemmas.Int.Digits.{digits_value_more, digits_more}
use Rattle.script_words.proofs.Numbers.{hexadecimal_length, hexadecimal_other, hexadecimal_is, small}
use Rattle.script_words.proofs.forms.hexadecimal.Goals as goal

pub returns-then-word-digits-clause-value : goal.returns-then-word-digits-clause-value
returns-then-word-digits-clause-value c = hexadecimal_length c.args.digits c.args.word.now c.if-word-digits.true

pub returns-then-next-ge16-clause-value : goal.returns-then-next-ge16-clause-value
returns-then-next-ge16-clause-value c =
    hexadecimal_other c.args.digits c.args.word.now c.loop-byte.byte-index c.if-word-digits.false c.loop-byte-test.true
    (rw (sym c.digit-next.ensures) c.if-next-ge16.true)

pub overflow_mul-value : goal.overflow_mul-value
overflow_mul-value c =
    omega (
      arith,
      c.loop-byte.invariant.value,
      small 16 7 c.args.word.now c.loop-byte.byte-index (omega arith) (omega arith)
          c.loop-byte.invariant.digits,
    )

pub overflow_add-value : goal.overflow_add-value
overflow_add-value c =
    omega (
      arith,
      c.loop-byte.invariant.value,
      small 16 7 c.args.word.now c.loop-byte.byte-index (omega arith) (omega arith)
          c.loop-byte.invariant.digits,
    )

pub loop-byte-preserved : goal.loop-byte-preserved
loop-byte-preserved c =
    let i = c.loop-byte.byte-index in
    let word = c.args.word.now in
    record {
      digits = digits_more 16 word i c.loop-byte-test.true c.loop-byte.invariant.digits
          (rw (sym c.digit-next.ensures) c.if-next-ge16.false);
      value = rw (digits_value_more 16 word i c.loop-byte-test.true, sym c.loop-byte.invariant.value, sym c.digit-next.ensures)
          (search rules);
    }

pub returns-clause-value : goal.returns-clause-value
returns-clause-value c =
    let word = c.args.word.now in
    let all : take c.loop-byte.byte-index word ≡ word = take_all c.loop-byte.byte-index word c.loop-byte-test.false in
    rw (c.loop-byte.invariant.value, all)
    (hexadecimal_is c.args.digits word c.if-word-digits.false (rw all at c.loop-byte.invariant.digits))

pub returns-clause-bound : goal.returns-clause-bound
returns-clause-bound c =
    rw c.loop-byte.invariant.value
    (small 16 c.args.digits c.args.word.now c.loop-byte.byte-index (omega arith)
    (omega (arith, c.if-word-digits.false, c.loop-byte.auto.byte-index-end)) c.loop-byte.invariant.digits)
