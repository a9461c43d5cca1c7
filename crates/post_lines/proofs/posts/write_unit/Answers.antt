use Rattle.std.proofs.Common.{◌+◌, List, drop, map, ap}
use Rattle.post_lines.proofs.Putting.{if-failed, part-more, wrote-more}
use Rattle.post_lines.specs.Slots.{SlotState, slot_of}
use Rattle.post_lines.specs.Lines.{slot_line, unit_text}
use Rattle.post_lines.proofs.Left.{next_of}
use Rattle.post_lines.proofs.posts.write_unit.Goals as goal

pub loop-place-preserved : goal.loop-place-preserved
loop-place-preserved g c =
    let task = c.args.task in
    let unit = c.args.unit in
    let slots = c.args.slots.now in
    let k = c.loop-place.place in
    let slot = c.index-slots-place.result in
    let left : List SlotState = drop (k + 1) (map slot_of slots) in
    wrote-more _ _ _ (slot_line task unit (k + 1) (slot_of slot)) (unit_text task unit (k + 1 + 1) left) _ _ c.loop-place.invariant
    (ap (λ (l : List SlotState). unit_text task unit (k + 1) l) (next_of slot_of slots k slot c.loop-place-test.true c.index-slots-place.is))
    (c.in_ok-write_slot.ensures {u = tt}).whole

pub returns-in_err-write_slot-clause-part : goal.returns-in_err-write_slot-clause-part
returns-in_err-write_slot-clause-part g c =
    let task = c.args.task in
    let unit = c.args.unit in
    let slots = c.args.slots.now in
    let k = c.loop-place.place in
    let slot = c.index-slots-place.result in
    let left : List SlotState = drop (k + 1) (map slot_of slots) in
    if-failed c.from_residual.result
    (part-more _ _ _ (slot_line task unit (k + 1) (slot_of slot)) (unit_text task unit (k + 1 + 1) left) _ _ c.loop-place.invariant
    (ap (λ (l : List SlotState). unit_text task unit (k + 1) l) (next_of slot_of slots k slot c.loop-place-test.true c.index-slots-place.is))
    (c.in_err-write_slot.ensures {u = tt}).part)
