use Rattle.std.proofs.Common.{◌≡◌, ◌<◌, ◌≤◌, ℕ, List, Vec, Global, length, map, sym, ap, ◌∙◌, rules}
use Rattle.std.proofs.lemmas.List.{length-map, with_items_is}
use Rattle.std.specs.Vec.{vec_len, with_items}
use Rattle.post_lines.specs.declared.slot.PostSlot.{PostSlot}
use Rattle.post_lines.specs.Slots.{SlotState, change, filled_unit, slot_of}
use Rattle.post_lines.proofs.Changes.{change-set, change-past}
use Rattle.post_lines.proofs.slots.Slots.fill.Goals as goal

abbrev unit_of : Vec PostSlot Global → List SlotState
unit_of v = map slot_of v.items

pub returns-then-unit-len : goal.returns-then-unit-len
returns-then-unit-len c =
    let units = c.args.self.now.units.items in
    let k = c.from-unit.result in
    let p = c.args.posted.now in
    let v = c.index_mut.result.now in
    let f = filled_unit p in
    let within : k < length units = search rules in
    let slots = c.fill_unit.new.slots in
    let size : length slots ≡ vec_len v = search (rules, c.as_mut_slice.ensures.len, c.fill_unit.auto.slots) in
    change-set f unit_of units k v (with_items v slots) within c.index_mut.ensures.value
    (ap (map slot_of) (with_items_is v slots size)
    ∙ c.fill_unit.ensures ∙ ap (λ (l : List PostSlot). f (map slot_of l)) c.as_mut_slice.ensures.value)
    ∙ ap (λ (i : ℕ). change f i (map unit_of units)) c.from-unit.ensures

pub returns-else-unit-len : goal.returns-else-unit-len
returns-else-unit-len c =
    let units = c.args.self.now.units.items in
    let size : length (map unit_of units) ≡ length units = length-map units unit_of in
    let out : length (map unit_of units) ≤ c.args.unit = search (rules, size) in
    sym (change-past (filled_unit c.args.posted.now) (map unit_of units) c.args.unit out)
