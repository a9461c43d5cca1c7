use Rattle.std.proofs.Common.{◌+◌, sym, arith}
use Rattle.ckd_disk.proofs.Opening.{bytes_start, bytes_more, item_ok, too_full, room_of_all}
use Rattle.ckd_disk.proofs.mount.fits_on.Goals as goal

pub loop-initial-init : goal.loop-initial-init
loop-initial-init c = record { counted = sym (bytes_start c.args.geometry c.args.track); room = omega arith }

pub returns-then-total-geometry : goal.returns-then-total-geometry
returns-then-total-geometry c =
    let g = c.args.geometry in
    let records = c.args.records.now in
    let k = c.loop-initial.initial-index in
    let r = c.initial-item.result in
    let ok = item_ok g records k r c.requires.each c.loop-initial-test.true c.initial-item.is in
    let more = bytes_more g records k r c.args.track c.loop-initial-test.true c.initial-item.is ok in
    sym (too_full g records (k + 1) c.args.track (omega (arith, more, c.bytes_on-total.ensures.bytes, c.loop-initial.invariant.counted)))

pub loop-initial-preserved : goal.loop-initial-preserved
loop-initial-preserved c =
    let g = c.args.geometry in
    let records = c.args.records.now in
    let k = c.loop-initial.initial-index in
    let r = c.initial-item.result in
    let ok = item_ok g records k r c.requires.each c.loop-initial-test.true c.initial-item.is in
    let more = bytes_more g records k r c.args.track c.loop-initial-test.true c.initial-item.is ok in
    record { counted = omega (arith, more, c.bytes_on-total.ensures.bytes, c.loop-initial.invariant.counted); room = omega arith }

pub returns : goal.returns
returns c = sym (room_of_all c.args.geometry c.args.records.now c.loop-initial.initial-index c.args.track (omega arith)
    (omega (arith, c.loop-initial.invariant.counted, c.loop-initial.invariant.room)))
