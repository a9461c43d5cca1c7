use Rattle.std.proofs.Common.{◌≡◌, ℕ, List, length, take, ap, ◌∙◌, rules}
use Rattle.std.proofs.lemmas.List.{with_items_is}
use Rattle.std.specs.Vec.{with_items}
use Rattle.device_port.specs.Moves.{written}
use Rattle.tape_unit.specs.Reel.{ReelState}
use Rattle.tape_unit.proofs.Reels.{Kept, refilled}
use Rattle.tape_unit.proofs.reel.Reel.copy_from.Goals as goal

keeps : (c : goal.After-self-3-1) → Kept c.args.from.now (with_items c.self.inside.bytes c.put_at.new.image).items c.from.inside.used
    c.from.inside.count
keeps c =
    let v = c.self.inside.bytes in
    let i = c.from.inside in
    let image = c.put_at.new.image in
    let same : length image ≡ v.len = search rules in
    let after-is = with_items_is v image same ∙ c.put_at.ensures
    ∙ ap (λ (l : List ℕ). written l 0 (take i.used c.deref.result.now)) c.deref_mut.ensures.value
    ∙ ap (λ (l : List ℕ). written v.items 0 (take i.used l)) c.deref.ensures.value in
    let size : length v.items ≡ c.args.from.now.size = ap (λ (r : ReelState). r.size) c.self.view_is ∙ c.requires in
    refilled c.args.from.now v.items (with_items v image).items i.bytes.items i.used i.count c.from.invariant c.from.view_is size after-is

pub invariant_of-self : goal.invariant_of-self
invariant_of-self c = (keeps c).holds

pub returns : goal.returns
returns c = (keeps c).view
