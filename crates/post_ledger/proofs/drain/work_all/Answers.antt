use Rattle.std.proofs.Common.{◌<◌, ◌≤◌, length, arith}
use Rattle.unit_book.specs.Settle.{IsIdle}
use Rattle.excp_system.specs.States.{Locked}
use Rattle.post_ledger.specs.Work.{Works}
use Rattle.post_ledger.proofs.Pairs.{before_end, before_next, paired_set}
use Rattle.post_ledger.proofs.Works.{works_more}
use Rattle.post_ledger.proofs.drain.work_all.Goals as goal

pub returns-in_err-work-clause-works : goal.returns-in_err-work-clause-works
returns-in_err-work-clause-works g c =
    let units = c.loop-place.units.items in
    let i = c.loop-place.invariant in
    let lt : c.loop-place.place < length units =
    omega (arith, c.loop-place-test.true, c.len-place-end.ensures, c.args.units.now.ok.0, i.works.count) in
    paired_set units c.loop-place.place c.index_mut-unit.result.now c.work.new.unit lt c.index_mut-unit.ensures.value Works works_more
    c.args.units.now.items i.works c.work.ensures.works

pub loop-place-preserved : goal.loop-place-preserved
loop-place-preserved g c =
    let units = c.loop-place.units.items in
    let i = c.loop-place.invariant in
    let lt : c.loop-place.place < length units =
    omega (arith, c.loop-place-test.true, c.len-place-end.ensures, c.args.units.now.ok.0, i.works.count) in
    let old = c.index_mut-unit.result.now in
    let at = c.index_mut-unit.ensures.value in
    record {
      works = paired_set units c.loop-place.place old c.work.new.unit lt at Works works_more c.args.units.now.items i.works
          c.work.ensures.works;
      idle = before_next units c.loop-place.place old c.work.new.unit lt at (λ (v : Locked _). IsIdle v.book.trace) i.idle
          c.in_ok-work.ensures.idle;
    }

pub returns-clause-idle : goal.returns-clause-idle
returns-clause-idle g c =
    let i = c.loop-place.invariant in
    let end : length c.loop-place.units.items ≤ c.loop-place.place =
    omega (arith, c.loop-place-test.false, c.len-place-end.ensures, c.args.units.now.ok.0, i.works.count) in
    before_end (λ (v : Locked _). IsIdle v.book.trace) c.loop-place.units.items c.loop-place.place end i.idle
