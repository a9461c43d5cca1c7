use Rattle.std.proofs.Common.{◌+◌, length, sym, ap, arith}
use Rattle.device_port.proofs.Items.{offset_of-within, offset_of-all}
use Rattle.tape_unit.specs.Item.{on_tape}
use Rattle.tape_unit.specs.Mount.{opening_items}
use Rattle.tape_unit.proofs.Loading.{bytes_more, le-true, le-false, length-opening}
use Rattle.tape_unit.proofs.mount.fit.Goals as goal

pub returns-then-total-bytes : goal.returns-then-total-bytes
returns-then-total-bytes c =
    let items = c.args.items.now in
    let more = bytes_more items c.loop-item.item-index c.item-item.result c.loop-item-test.true c.item-item.is in
    let within = offset_of-within on_tape (opening_items items) (c.loop-item.item-index + 1) in
    sym (le-false _ _ (omega (arith, more, within, ap length c.content.ensures, c.loop-item.invariant.counted, c.if-total-bytes.true)))

pub loop-item-preserved : goal.loop-item-preserved
loop-item-preserved c =
    let more = bytes_more c.args.items.now c.loop-item.item-index c.item-item.result c.loop-item-test.true c.item-item.is in
    record { counted = omega (arith, more, ap length c.content.ensures, c.loop-item.invariant.counted); room = c.if-total-bytes.false }

pub returns : goal.returns
returns c =
    let items = c.args.items.now in
    let all = offset_of-all on_tape (opening_items items) c.loop-item.item-index (omega (arith, length-opening items)) in
    sym (le-true _ _ (omega (arith, all, c.loop-item.invariant.counted, c.loop-item.invariant.room)))
