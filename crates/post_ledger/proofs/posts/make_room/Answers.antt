use Rattle.std.proofs.Common.{◌∙◌, ◌<◌, ◌≤◌, Vec, Global, length, ap, arith}
use Rattle.std.specs.Prelude.{vec_capacity, vec_len}
use Rattle.std.proofs.Math.ListN.{length-set}
use Rattle.std.proofs.Math.Seq.{map-set_same}
use Rattle.request_piece.specs.PostedState.{PostedState}
use Rattle.post_ledger.proofs.Pairs.{before_end, before_next}
use Rattle.post_ledger.proofs.posts.make_room.Goals as goal

pub returns-in_err-reserve-clause-values : goal.returns-in_err-reserve-clause-values
returns-in_err-reserve-clause-values c =
    map-set_same (λ (list : Vec PostedState Global). list.items) c.loop-place.lists.items c.loop-place.place c.reserve.new.self
    c.index_mut.result.now
    (c.reserve.ensures.items ∙ ap (λ (list : Vec PostedState Global). list.items) c.index_mut.ensures.value) ∙ c.loop-place.invariant.values

pub loop-place-preserved : goal.loop-place-preserved
loop-place-preserved c =
    let lists = c.loop-place.lists.items in
    let i = c.loop-place.invariant in
    let lt : c.loop-place.place < length lists =
    omega (arith, c.loop-place-test.true, c.len-place-end.ensures, c.args.lists.now.ok.0, i.count) in
    record {
      values = map-set_same (λ (list : Vec PostedState Global). list.items) c.loop-place.lists.items c.loop-place.place c.reserve.new.self
          c.index_mut.result.now
          (c.reserve.ensures.items ∙ ap (λ (list : Vec PostedState Global). list.items) c.index_mut.ensures.value)
          ∙ c.loop-place.invariant.values;
      count = length-set lists c.loop-place.place c.reserve.new.self ∙ i.count;
      room = before_next lists c.loop-place.place c.index_mut.result.now c.reserve.new.self lt c.index_mut.ensures.value
          (λ (list : Vec PostedState Global). vec_len list < vec_capacity list) i.room
          (omega (arith, c.in_ok-reserve.ensures.ok));
    }

pub returns-clause-room : goal.returns-clause-room
returns-clause-room c =
    let lists = c.loop-place.lists.items in
    let i = c.loop-place.invariant in
    let end : length lists ≤ c.loop-place.place =
    omega (arith, c.loop-place-test.false, c.len-place-end.ensures, c.args.lists.now.ok.0, i.count) in
    before_end (λ (list : Vec PostedState Global). vec_len list < vec_capacity list) lists c.loop-place.place end i.room
