use Rattle.std.proofs.Common.{◌≡◌, ◌<◌, ◌+◌, ◌∷◌, Global, List, Vec, drop, length, map, ap, rules, ◌∙◌, sym}
use Rattle.post_lines.proofs.Putting.{if-failed, part-more, wrote-more}
use Rattle.post_lines.specs.Slots.{SlotState, slot_of}
use Rattle.post_lines.specs.declared.slot.PostSlot.{PostSlot}
use Rattle.post_lines.specs.Lines.{unit_text, units_text}
use Rattle.post_lines.proofs.Left.{next_of}
use Rattle.post_lines.proofs.posts.write_task.Goals as goal

abbrev unit_of : Vec PostSlot Global → List SlotState
unit_of v = map slot_of v.items

pub loop-unit-preserved : goal.loop-unit-preserved
loop-unit-preserved g c =
    let task = c.args.task in
    let units = c.args.slots.now.units.items in
    let k = c.loop-unit.unit in
    let slots = c.index.result.now in
    let within : k < length units = search rules in
    let left : List (List SlotState) = drop (k + 1) (map unit_of units) in
    let same : unit_of slots ≡ map slot_of c.deref.result.now = ap (map slot_of) (sym c.deref.ensures.value) in
    wrote-more _ _ _ (unit_text task k 1 (map slot_of c.deref.result.now)) (units_text task (k + 1) left) _ _ c.loop-unit.invariant
    (ap (λ (l : List (List SlotState)). units_text task k l) (next_of unit_of units k slots within c.index.ensures
    ∙ ap (λ (s : List SlotState). s ∷ left) same))
    (c.in_ok-write_unit.ensures {u = tt}).whole

pub returns-in_err-write_unit-clause-part : goal.returns-in_err-write_unit-clause-part
returns-in_err-write_unit-clause-part g c =
    let task = c.args.task in
    let units = c.args.slots.now.units.items in
    let k = c.loop-unit.unit in
    let slots = c.index.result.now in
    let within : k < length units = search rules in
    let left : List (List SlotState) = drop (k + 1) (map unit_of units) in
    let same : unit_of slots ≡ map slot_of c.deref.result.now = ap (map slot_of) (sym c.deref.ensures.value) in
    if-failed c.from_residual.result
    (part-more _ _ _ (unit_text task k 1 (map slot_of c.deref.result.now)) (units_text task (k + 1) left) _ _ c.loop-unit.invariant
    (ap (λ (l : List (List SlotState)). units_text task k l) (next_of unit_of units k slots within c.index.ensures
    ∙ ap (λ (s : List SlotState). s ∷ left) same))
    (c.in_err-write_unit.ensures {u = tt}).part)
