use Rattle.std.proofs.Common.{◌≡◌, ◌++◌, ◌<◌, ◌≤◌, ◌∷◌, [], ℕ, List, Vec, Global, OnErr, Result, Ok, Err, get_or, length, map, sym, ap, ◌∙◌, rules}
use Rattle.std.proofs.lemmas.List.{length-map, map-append}
use Rattle.std.proofs.Math.Seq.{map-set_same}
use Rattle.post_lines.specs.declared.slot.PostSlot.{PostSlot}
use Rattle.post_lines.specs.Slots.{SlotState, waiting_slot, change, slot_of}
use Rattle.post_lines.proofs.Changes.{change-set, change-past}
use Rattle.post_lines.proofs.slots.Slots.expect.Goals as goal

on_err : {T E P : Type 0} (r : Result T E) → P → OnErr r P
on_err (Ok x) fact = tt
on_err (Err e) fact = fact

abbrev unit_of : Vec PostSlot Global → List SlotState
unit_of v = map slot_of v.items

pub returns-in_err-push-clause-err : goal.returns-in_err-push-clause-err
returns-in_err-push-clause-err c =
    let units = c.args.self.now.units.items in
    let k = c.from-unit.result in
    let v = c.index_mut.result.now in
    let new = c.push.new.self in
    let at : v ≡ get_or units k v = c.index_mut.ensures.value in
    let same : unit_of new ≡ unit_of (get_or units k v) = ap (map slot_of) (c.in_err-push.ensures {u = tt}).items ∙ ap unit_of at in
    on_err c.from_residual-in_err-push.result (map-set_same unit_of units k new v same)

pub returns-in_ok-push-clause-ok : goal.returns-in_ok-push-clause-ok
returns-in_ok-push-clause-ok c =
    let units = c.args.self.now.units.items in
    let k = c.from-unit.result in
    let v = c.index_mut.result.now in
    let new = c.push.new.self in
    let within : k < length units = search rules in
    let slot = c.in_ok-new.field-0 in
    let e : SlotState = waiting_slot c.args.show c.args.len in
    change-set (λ (l : List SlotState). l ++ e ∷ []) unit_of units k v new within c.index_mut.ensures.value
    (ap (map slot_of) (c.in_ok-push.ensures {u = tt}).items ∙ map-append slot_of v.items (slot ∷ [])
    ∙ ap (λ (x : SlotState). unit_of v ++ x ∷ []) c.in_ok-new.ensures)
    ∙ ap (λ (i : ℕ). change (λ (l : List SlotState). l ++ e ∷ []) i (map unit_of units)) c.from-unit.ensures

pub returns-else-unit-len-clause-ok : goal.returns-else-unit-len-clause-ok
returns-else-unit-len-clause-ok c =
    let units = c.args.self.now.units.items in
    let e : SlotState = waiting_slot c.args.show c.args.len in
    let size : length (map unit_of units) ≡ length units = length-map units unit_of in
    let out : length (map unit_of units) ≤ c.args.unit = search (rules, size) in
    sym (change-past (λ (l : List SlotState). l ++ e ∷ []) (map unit_of units) c.args.unit out)
