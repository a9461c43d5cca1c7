use Rattle.std.proofs.Common.{sym, ◌∙◌, ◌-◌, arith, drop, length, length-drop, length-take}
use Rattle.std.proofs.lemmas.Bool.{eqb-true, eqb-false}
use Rattle.script_words.proofs.Numbers.{pair_high, pair_low, pair_more, pairs_end, pairs_odd}
use Rattle.script_words.proofs.forms.push_pairs.Goals as goal

pub returns-then-high-ge16 : goal.returns-then-high-ge16
returns-then-high-ge16 c =
    pair_high c.loop-rest.bytes.items c.loop-rest.rest.now c.digit-high.result _ c.loop-rest.invariant.read c.in-len2-up.len_at_least
    c.digit-high.ensures c.if-high-ge16.true

pub returns-then-low-ge16 : goal.returns-then-low-ge16
returns-then-low-ge16 c =
    pair_low c.loop-rest.bytes.items c.loop-rest.rest.now c.digit-low.result _ c.loop-rest.invariant.read c.in-len2-up.len_at_least
    c.digit-low.ensures c.if-low-ge16.true

pub loop-rest-preserved : goal.loop-rest-preserved
loop-rest-preserved c =
    let rest = c.loop-rest.rest.now in
    let left = length-take (length rest - 2) (drop 2 rest) in
    record {
      read = pair_more c.loop-rest.bytes.items rest c.push_reserved.new.self.items c.digit-high.result c.digit-low.result _
          c.loop-rest.invariant.read c.in-len2-up.len_at_least c.digit-high.ensures c.digit-low.ensures c.if-high-ge16.false
          c.if-low-ge16.false c.push_reserved.ensures.items;
      room = omega (
        arith,
        left,
        length-drop 2 rest,
        c.in-len2-up.len_at_least,
        c.push_reserved.ensures.len,
        c.push_reserved.ensures.capacity,
        c.loop-rest.invariant.room,
      );
    }

pub returns-then-is_empty : goal.returns-then-is_empty
returns-then-is_empty c =
    pairs_end c.loop-rest.bytes.items c.loop-rest.rest.now _ c.loop-rest.invariant.read
    (eqb-true _ 0 (sym c.is_empty.ensures ∙ c.if-is_empty.true))

pub returns-else-is_empty : goal.returns-else-is_empty
returns-else-is_empty c =
    pairs_odd c.loop-rest.bytes.items c.loop-rest.rest.now _ c.loop-rest.invariant.read c.in_default.len_below
    (eqb-false _ 0 (sym c.is_empty.ensures ∙ c.if-is_empty.false))
