use Rattle.std.proofs.Common.{◌≡◌, ◌+◌, ℕ, length, take, ◌∙◌, sym, ap, arith}
use Rattle.std.proofs.lemmas.List.{length-take-le}
use Rattle.byteorder.specs.Endian.{big_bytes}
use Rattle.device_port.specs.Moves.{written}
use Rattle.tape_unit.proofs.Spelled.{item_written, padded-take}
use Rattle.tape_unit.proofs.reel.write_given.Goals as goal

pub returns : goal.returns
returns c =
    let image = c.args.image.now in
    let at = c.args.at in
    let bytes = take c.args.len c.args.given.now in
    let len-is : length bytes ≡ c.args.len = length-take-le c.args.len c.args.given.now c.requires.given in
    item_written image c.write_length.new.image c.fill_at.new.image c.write_length-2.new.image at bytes
    (omega (arith, len-is, c.requires.room))
    (c.write_length.ensures ∙ ap (λ (n : ℕ). written image at (big_bytes 2 n)) (sym len-is))
    (c.fill_at.ensures.image ∙ ap (written c.write_length.new.image (at + 2))
    (padded-take c.args.len c.args.given.now c.requires.given))
    (c.write_length-2.ensures ∙ ap (λ (n : ℕ). written c.fill_at.new.image (at + 2 + n) (big_bytes 2 n)) (sym len-is))
