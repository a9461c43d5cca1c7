use Rattle.std.proofs.Common.{◌<◌, length, ap, ◌∙◌, sym, subst, arith}
use Rattle.fifo_row.specs.Lists.{BeginsWith, of_sender}
use Rattle.post_ledger.proofs.Joins.{some_end, row_is, next_turn, all_done, all_shorter}
use Rattle.post_ledger.proofs.join.join_row.Goals as goal

pub unreachable-requires : goal.unreachable-requires
unreachable-requires g c =
    let turn = c.loop-t.invariant.turn in
    let lt : c.loop-t.t < length c.loop-t.fans.items =
    omega (arith, c.loop-t-test.true, c.len-t-end.ensures, c.args.fans.now.ok.0, turn.count) in
    let none = c.in_default.ensures in
    some_end g.I.RowItem.from g.F.Reach.reached c.args.k c.loop-t.t c.args.taker.taken c.args.fans.now.items c.loop-t.fans.items turn
    c.requires.drained lt c.index_mut-fan.result.now c.index_mut-fan.ensures.value none.none

pub meet-requires : goal.meet-requires
meet-requires g c =
    let turn = c.loop-t.invariant.turn in
    let lt : c.loop-t.t < length c.loop-t.fans.items =
    omega (arith, c.loop-t-test.true, c.len-t-end.ensures, c.args.fans.now.ok.0, turn.count) in
    row_is g.I.RowItem.from g.F.Reach.reached c.args.k c.loop-t.t c.args.taker.taken c.args.fans.now.items c.loop-t.fans.items turn
    c.requires.drained lt c.index_mut-fan.result.now c.index_mut-fan.ensures.value
    c.pop.new.self c.in-Some.sender (c.in-Some.ensures.end, c.in-Some.ensures.last) ∙ (sym c.requires.row ∙ sym c.loop-t.invariant.row)

pub loop-t-preserved : goal.loop-t-preserved
loop-t-preserved g c =
    let i = c.loop-t.invariant in
    let s = c.in-Some.sender in
    let lt : c.loop-t.t < length c.loop-t.fans.items =
    omega (arith, c.loop-t-test.true, c.len-t-end.ensures, c.args.fans.now.ok.0, i.turn.count) in
    record {
      row = ap (λ t. t.row) c.meet.ensures.met ∙ i.row;
      taken = ap (λ t. t.taken) c.meet.ensures.met ∙ i.taken;
      turn = next_turn g.I.RowItem.from g.F.Reach.reached c.args.k c.loop-t.t c.args.taker.taken c.args.fans.now.items c.loop-t.fans.items
          i.turn c.requires.drained lt c.index_mut-fan.result.now c.index_mut-fan.ensures.value
          c.pop.new.self s (c.in-Some.ensures.end, c.in-Some.ensures.last)
          (subst (λ l. BeginsWith (of_sender g.I.RowItem.from s.number l) s.sent) i.taken c.meet.ensures.begins);
    }

pub returns-clause-all : goal.returns-clause-all
returns-clause-all g c = λ t f e. all_done g.I.RowItem.from c.args.k c.loop-t.t c.args.taker.taken c.args.fans.now.items c.loop-t.fans.items
    c.loop-t.invariant.turn (omega (arith, c.loop-t-test.false, c.len-t-end.ensures, c.args.fans.now.ok.0)) t f e

pub returns-clause-fans : goal.returns-clause-fans
returns-clause-fans g c = λ t f e. all_shorter g.I.RowItem.from c.args.k c.loop-t.t c.args.taker.taken c.args.fans.now.items
    c.loop-t.fans.items c.loop-t.invariant.turn (omega (arith, c.loop-t-test.false, c.len-t-end.ensures, c.args.fans.now.ok.0)) t f e
