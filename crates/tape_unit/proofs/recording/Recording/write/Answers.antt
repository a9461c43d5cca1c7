use Rattle.std.proofs.Common.{◌≡◌, ◌+◌, ◌-◌, ◌++◌, ℕ, List, length, take, replicate, ap, sym, ◌∙◌, arith, rules}
use Rattle.std.proofs.lemmas.List.{with_items_is}
use Rattle.std.specs.Vec.{with_items}
use Rattle.device_port.specs.Moves.{written}
use Rattle.tape_unit.specs.Item.{Item, item_with, packed, size_of}
use Rattle.tape_unit.specs.Recording.{with_item}
use Rattle.tape_unit.proofs.Spelled.{content_of-item_with}
use Rattle.tape_unit.proofs.Recordings.{Kept, recorded, few}
use Rattle.tape_unit.proofs.recording.Recording.write.Goals as goal

pub overflow_add-self : goal.overflow_add-self
overflow_add-self c =
    let i = c.self.inside in
    omega (arith, few i.bytes.items i.count i.size c.self.invariant)

keeps : (c : goal.After-self-2-1) → Kept (with_item c.args.self.now (item_with c.args.content.now))
    (with_items c.resize.new.self c.write_item.new.image).items (c.self.inside.count + 1) c.self.inside.size
keeps c =
    let i = c.self.inside in
    let x : Item = item_with c.args.content.now in
    let grown = c.resize.new.self in
    let image = c.write_item.new.image in
    let end = c.len-start.result + 4 + length c.args.content.now in
    let len : length i.bytes.items ≡ i.bytes.len = search rules in
    let start : length i.bytes.items ≡ c.len-start.result = search rules in
    let same : length image ≡ grown.len = search rules in
    let data_len : length c.args.content.now ≡ size_of x - 4 = omega (arith, ap length (content_of-item_with c.args.content.now)) in
    let grown-is = (c.in-Ok.ensures {u = tt}).items
    ∙ ap (λ (n : ℕ). take end i.bytes.items ++ replicate (end - n) 0) (sym len) in
    let after-is = with_items_is grown image same ∙ c.write_item.ensures
    ∙ ap (λ (l : List ℕ). written l c.len-start.result (packed x)) c.deref_mut.ensures.value
    ∙ ap (λ (n : ℕ). written grown.items n (packed x)) (sym start) in
    recorded c.args.self.now i.bytes.items grown.items (with_items grown image).items i.count i.size end x c.self.invariant
    c.self.view_is c.requires (omega (arith, start, data_len)) c.if-end-self.false grown-is after-is

pub invariant_of-self-2 : goal.invariant_of-self-2
invariant_of-self-2 c = (keeps c).holds

pub returns-clause-recorded : goal.returns-clause-recorded
returns-clause-recorded c = (keeps c).view
