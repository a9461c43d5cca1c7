use Rattle.std.proofs.Common.{◌+◌, ◌≤◌, ℕ, List, length, take, ap, ◌∙◌, arith}
use Rattle.std.proofs.lemmas.Bool.Decides.{nat_tests}
use Rattle.tape_unit.specs.Item.{Item, item_with}
use Rattle.tape_unit.specs.Reel.{ReelState, bytes_of, has_room_at, with_item_at}
use Rattle.tape_unit.specs.Mount.{opening_items}
use Rattle.tape_unit.proofs.Loading.{more, le-true}
use Rattle.tape_unit.proofs.mount.loaded.Goals as goal

pub put-end-requires-clause-room : goal.put-end-requires-clause-room
put-end-requires-clause-room c =
    let items = c.args.items.now in
    let k = c.loop-item.item-index in
    let r = c.item-item.result in
    let fit : bytes_of (opening_items items) ≤ c.args.bytes = grind (arith, nat_tests, c.requires.fit) in
    let m = more items c.args.bytes k r c.loop-item-test.true c.item-item.is c.requires.items fit in
    ap (λ (reel : ReelState). has_room_at reel c.loop-item.end.place (length c.content.result.now)) c.loop-item.invariant.loaded
    ∙ ap (λ (n : ℕ). has_room_at (record { size = c.args.bytes; items = take k (opening_items items) }) n (length c.content.result.now))
    c.loop-item.invariant.end
    ∙ ap (λ (l : List ℕ). has_room_at (record { size = c.args.bytes; items = take k (opening_items items) }) k (length l)) c.content.ensures
    ∙ le-true _ _ m.room

pub loop-item-preserved : goal.loop-item-preserved
loop-item-preserved c =
    let items = c.args.items.now in
    let k = c.loop-item.item-index in
    let r = c.item-item.result in
    let fit : bytes_of (opening_items items) ≤ c.args.bytes = grind (arith, nat_tests, c.requires.fit) in
    let m = more items c.args.bytes k r c.loop-item-test.true c.item-item.is c.requires.items fit in
    record {
      loaded = c.put-end.ensures.reel
          ∙ ap (λ (reel : ReelState). with_item_at reel c.loop-item.end.place (item_with c.content.result.now)) c.loop-item.invariant.loaded
          ∙ ap (λ (n : ℕ). with_item_at (record { size = c.args.bytes; items = take k (opening_items items) }) n
          (item_with c.content.result.now)) c.loop-item.invariant.end
          ∙ ap (λ (l : List ℕ). with_item_at (record { size = c.args.bytes; items = take k (opening_items items) }) k (item_with l))
          c.content.ensures
          ∙ ap (λ (l : List Item). record { size = c.args.bytes; items = l }) m.items;
      end = c.put-end.ensures.behind ∙ ap (λ (n : ℕ). n + 1) c.loop-item.invariant.end;
      on = c.put-end.ensures.on;
    }
