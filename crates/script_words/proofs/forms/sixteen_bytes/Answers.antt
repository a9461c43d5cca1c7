use Rattle.std.proofs.Common.{rules, arith}
use Rattle.script_words.proofs.Numbers.{place_ends, place_high, place_low, place_more, sized_is, sized_other}
use Rattle.script_words.proofs.forms.sixteen_bytes.Goals as goal

pub returns-then-word-ne-SIXTEEN_PAIRS : goal.returns-then-word-ne-SIXTEEN_PAIRS
returns-then-word-ne-SIXTEEN_PAIRS c = sized_other 16 c.args.word.now c.if-word-ne-SIXTEEN_PAIRS.true

pub returns-then-high-ge16 : goal.returns-then-high-ge16
returns-then-high-ge16 c =
    sized_is 16 c.args.word.now _ c.if-word-ne-SIXTEEN_PAIRS.false
    (place_high c.loop-place.bytes c.args.word.now c.loop-place.place c.digit-high.result c.loop-place.invariant.read (omega arith)
    c.digit-high.ensures c.if-high-ge16.true)

pub returns-then-low-ge16 : goal.returns-then-low-ge16
returns-then-low-ge16 c =
    sized_is 16 c.args.word.now _ c.if-word-ne-SIXTEEN_PAIRS.false
    (place_low c.loop-place.bytes c.args.word.now c.loop-place.place c.digit-low.result c.loop-place.invariant.read (omega arith)
    c.digit-low.ensures c.if-low-ge16.true)

pub loop-place-preserved : goal.loop-place-preserved
loop-place-preserved c = record {
  read = place_more c.loop-place.bytes c.args.word.now c.loop-place.place c.digit-high.result c.digit-low.result c.loop-place.invariant.read
      (omega arith) (omega (arith, c.loop-place.invariant.room)) c.digit-high.ensures c.digit-low.ensures c.if-high-ge16.false
      c.if-low-ge16.false;
  room = search rules;
}

pub returns : goal.returns
returns c =
    place_ends c.loop-place.bytes c.args.word.now c.loop-place.place 16 c.loop-place.invariant.read c.if-word-ne-SIXTEEN_PAIRS.false
    (omega arith) c.loop-place.invariant.room
