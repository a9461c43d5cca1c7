use Rattle.std.proofs.Common.{◌+◌, List, ℕ, length, drop, ap, subst, sym, ◌∙◌, arith}
use Rattle.device_port.specs.Packed.{Begins}
use Rattle.device_port.proofs.Items.{offset_of-within}
use Rattle.tape_unit.specs.Item.{on_tape}
use Rattle.tape_unit.specs.Reel.{item_of}
use Rattle.tape_unit.proofs.Reels.{shown, bounds, found}
use Rattle.tape_unit.proofs.reel.Reel.from.Goals as goal

pub split_at-requires : goal.split_at-requires
split_at-requires c =
    let b = bounds c.args.self.now c.self.inside.bytes.items c.self.inside.used c.self.inside.count c.args.at c.self.invariant
    c.self.view_is c.requires.on in
    omega (arith, b.size, b.within, b.whole, ap length c.as_slice.ensures.value)

pub returns : goal.returns
returns c =
    let reel = c.args.self.now in
    let at = c.args.at in
    let i = c.self.inside in
    let b = bounds reel i.bytes.items i.used i.count at c.self.invariant c.self.view_is c.requires.on in
    let s = shown reel i.bytes.items i.used i.count c.self.invariant c.self.view_is in
    let here = found reel i.bytes.items i.used i.count at c.self.invariant c.self.view_is c.requires.on c.requires.before in
    let rest = c.split_at.ensures.back ∙ ap (drop at.offset) c.as_slice.ensures.value in
    record {
      item = subst (λ (l : List ℕ). Begins on_tape l (item_of reel.items at.place)) (sym rest) here;
      within = omega (arith, offset_of-within on_tape reel.items (at.place + 1), s.packs.taken, b.whole, b.small);
      few = omega (arith, b.wide, b.within, b.whole, b.small, c.requires.before);
    }
