use Rattle.std.proofs.Common.{◌≡◌, ◌+◌, ◌≤◌, ℕ, List, length, ap, subst, sym, ◌∙◌, arith, rules}
use Rattle.std.proofs.lemmas.Bool.Decides.{nat_tests}
use Rattle.std.proofs.lemmas.List.{with_items_is}
use Rattle.std.specs.Vec.{with_items}
use Rattle.device_port.specs.Moves.{written}
use Rattle.tape_unit.specs.Item.{Item, item_with, content_of, packed}
use Rattle.tape_unit.specs.Reel.{ReelState, IsOn, bytes_before, with_item_at}
use Rattle.tape_unit.proofs.Spelled.{content_of-item_with}
use Rattle.tape_unit.proofs.Reels.{Kept, bounds, put_kept, after_put}
use Rattle.tape_unit.proofs.reel.Reel.put.Goals as goal

keeps : (c : goal.After-self-3-1) → Kept (with_item_at c.args.self.now c.args.at.place (item_with c.args.content.now))
    (with_items c.self.inside.bytes c.write_item.new.image).items (c.args.at.offset + 4 + length c.args.content.now) (c.args.at.place + 1)
keeps c =
    let reel = c.args.self.now in
    let at = c.args.at in
    let v = c.self.inside.bytes in
    let image = c.write_item.new.image in
    let x : Item = item_with c.args.content.now in
    let len-is : length c.args.content.now ≡ length (content_of x) = sym (ap length (content_of-item_with c.args.content.now)) in
    let fit = c.requires.item in
    let same : length image ≡ v.len = search rules in
    let after-is = with_items_is v image same ∙ c.write_item.ensures
    ∙ ap (λ (l : List ℕ). written l at.offset (packed x)) c.deref_mut.ensures.value in
    let room : bytes_before reel.items at.place + (4 + length c.args.content.now) ≤ reel.size = grind (arith, nat_tests, c.requires.room) in
    put_kept reel v.items (with_items v image).items c.self.inside.used c.self.inside.count at
    (length c.args.content.now) x c.self.invariant c.self.view_is
    c.requires.on fit len-is (omega (arith, room, c.requires.on.before)) after-is

pub invariant_of-self : goal.invariant_of-self
invariant_of-self c = (keeps c).holds

pub returns-clause-reel : goal.returns-clause-reel
returns-clause-reel c = (keeps c).view

pub returns-clause-on : goal.returns-clause-on
returns-clause-on c =
    let reel = c.args.self.now in
    let at = c.args.at in
    let x : Item = item_with c.args.content.now in
    let len-is : length c.args.content.now ≡ length (content_of x) = sym (ap length (content_of-item_with c.args.content.now)) in
    let after : ℕ = at.offset + 4 + length c.args.content.now in
    subst (λ (r : ReelState). IsOn r.items (record { place = at.place + 1; offset = after })) (sym (keeps c).view)
    (after_put reel.items at (length c.args.content.now) x c.requires.on len-is)

pub overflow_add-end : goal.overflow_add-end
overflow_add-end c =
    let i = c.self.inside in
    let b = bounds c.args.self.now i.bytes.items i.used i.count c.args.at c.self.invariant c.self.view_is c.requires.on in
    omega (arith, b.wide, b.within, b.whole, b.small)
