use Rattle.std.proofs.Common.{◌≡◌, ◌-◌, ◌∙◌, inl, inr, length, map, sym, ap, arith}
use Rattle.std.proofs.lemmas.List.{length-map}
use Rattle.request_piece.specs.declared.piece.Name.{Name}
use Rattle.post_lines.specs.Slots.{filled_slot, slot_of}
use Rattle.post_lines.specs.declared.slot.PostSlot.{PostSlot}
use Rattle.post_lines.proofs.Changes.{change_from_1-set, change_from_1-past}
use Rattle.post_lines.proofs.slots.fill_unit.Goals as goal

pub returns-then-number-slots : goal.returns-then-number-slots
returns-then-number-slots c =
    let slots = c.args.slots.now in
    let p = c.args.posted.now in
    let n = c.name-number.result.seq in
    let same : n ≡ p.name.seq = ap (λ (m : Name). m.seq) c.name-number.ensures in
    change_from_1-set (filled_slot p) slot_of slots p.name.seq (n - 1) c.index-slots-number.result c.fill.new.self
    (omega (arith, same, c.if-number-gt0.true)) (omega (arith, same))
    (omega (arith, c.if-number-gt0.true, c.if-number-slots.true)) c.index-slots-number.is
    (c.fill.ensures ∙ ap (λ (s : PostSlot). filled_slot p (slot_of s)) (sym c.index-slots-number.is))

pub returns-else-number-gt0 : goal.returns-else-number-gt0
returns-else-number-gt0 c =
    let slots = map slot_of c.args.slots.now in
    let p = c.args.posted.now in
    let same : c.name-number.result.seq ≡ p.name.seq = ap (λ (m : Name). m.seq) c.name-number.ensures in
    let size : length slots ≡ length c.args.slots.now = length-map c.args.slots.now slot_of in
    change_from_1-past (filled_slot p) slots p.name.seq
    (elim c.else-number-gt0.either [
      | inl e ↦ inl (omega (arith, same, e.0), omega (arith, same, size, e.1))
      | inr e ↦ inr (omega (arith, same, e))
    ])
