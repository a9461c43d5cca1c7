use Rattle.std.proofs.Common.{rules, ◌≡◌, ◌≤◌, length, take, sym, ◌∙◌, arith}
use Rattle.std.proofs.lemmas.Bool.{eqb-true, eqb-false}
use Rattle.std.proofs.lemmas.List.{take_all}
use Rattle.std.proofs.lemmas.Int.Digits.{digits_value_more, digits_more}
use Rattle.script_words.proofs.Numbers.{decimal_none, decimal_long, decimal_other, decimal_is, small}
use Rattle.script_words.proofs.forms.decimal.Goals as goal
use Rattle.script_words.proofs.forms.decimal.Goals.{then-is_empty-via-then-is_empty}
use Rattle.script_words.proofs.forms.decimal.Goals.{then-is_empty-via-else-is_empty+then-word-gt-MOST_DIGITS}

pub returns-then-is_empty : goal.returns-then-is_empty
returns-then-is_empty c =
    elim c.then-is_empty.branch [
      | then-is_empty-via-then-is_empty w ↦ decimal_none c.args.word.now (eqb-true _ 0 (sym c.is_empty.ensures ∙ w.if-is_empty.true))
      | then-is_empty-via-else-is_empty+then-word-gt-MOST_DIGITS w ↦ decimal_long c.args.word.now w.if-word-gt-MOST_DIGITS.true
    ]

pub returns-then-next-ge10 : goal.returns-then-next-ge10
returns-then-next-ge10 c =
    decimal_other c.args.word.now c.loop-byte.byte-index (omega (arith, c.loop-byte-test.true)) c.if-word-gt-MOST_DIGITS.false
    c.loop-byte-test.true (rw (sym c.digit-next.ensures) c.if-next-ge10.true)

pub overflow_mul-value : goal.overflow_mul-value
overflow_mul-value c =
    omega (
      arith,
      c.loop-byte.invariant.value,
      small 10 9 c.args.word.now c.loop-byte.byte-index (omega arith) (omega arith)
          c.loop-byte.invariant.digits,
    )

pub overflow_add-value : goal.overflow_add-value
overflow_add-value c =
    omega (
      arith,
      c.loop-byte.invariant.value,
      small 10 9 c.args.word.now c.loop-byte.byte-index (omega arith) (omega arith)
          c.loop-byte.invariant.digits,
    )

pub loop-byte-preserved : goal.loop-byte-preserved
loop-byte-preserved c =
    let i = c.loop-byte.byte-index in
    let word = c.args.word.now in
    record {
      digits = digits_more 10 word i c.loop-byte-test.true c.loop-byte.invariant.digits
          (rw (sym c.digit-next.ensures) c.if-next-ge10.false);
      value = rw (digits_value_more 10 word i c.loop-byte-test.true, sym c.loop-byte.invariant.value, sym c.digit-next.ensures)
          (search rules);
    }

pub returns : goal.returns
returns c =
    let word = c.args.word.now in
    let all : take c.loop-byte.byte-index word ≡ word = take_all c.loop-byte.byte-index word c.loop-byte-test.false in
    let some : 1 ≤ length word = omega (arith, eqb-false (length word) 0 (sym c.is_empty.ensures ∙ c.if-is_empty.false)) in
    rw (c.loop-byte.invariant.value, all) (decimal_is word some c.if-word-gt-MOST_DIGITS.false (rw all at c.loop-byte.invariant.digits))
