use Rattle.std.proofs.Common.{◌≡◌, ◌≤◌, length, drop, ap, subst, sym, ◌∙◌, arith}
use Rattle.std.proofs.lemmas.List.{length-take}
use Rattle.device_port.proofs.Items.{begins-within, item_at-begins, size_at-begins}
use Rattle.tape_unit.specs.Item.{Item, content_of, item_with, item_at, length_at, on_tape}
use Rattle.tape_unit.specs.Reel.{item_of}
use Rattle.tape_unit.proofs.Spelled.{reads, short, length-packed}
use Rattle.tape_unit.proofs.reel.Reel.item.Goals as goal

pub first_content-requires : goal.first_content-requires
first_content-requires c = begins-within on_tape reads c.from.result.now (item_of c.args.self.now.items c.args.at.place) c.from.ensures.item

pub new-requires : goal.new-requires
new-requires c =
    let bytes = c.from.result.now in
    let x = item_of c.args.self.now.items c.args.at.place in
    let b = c.from.ensures.item in
    let len = length-take (length_at bytes) (drop 2 bytes) in
    omega (arith, ap length c.first_content.ensures, len, size_at-begins on_tape reads bytes x b, length-packed x, short x b.fits)

pub returns : goal.returns
unfolding item_at
returns c =
    let x = item_of c.args.self.now.items c.args.at.place in
    let e : c.new.result ≡ x = c.new.ensures ∙ ap item_with c.first_content.ensures
    ∙ item_at-begins on_tape reads c.from.result.now x c.from.ensures.item in
    record { item = e; short = subst (λ (y : Item). length (content_of y) ≤ 65_535) (sym e) (short x c.from.ensures.item.fits) }
