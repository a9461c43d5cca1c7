use Rattle.std.proofs.Common.{◌∙◌, sym, ap}
use Rattle.device_port.specs.Moves.{written}
use Rattle.tape_unit.proofs.Spelled.{item_written, packed-item_with}
use Rattle.tape_unit.proofs.reel.write_item.Goals as goal

pub returns : goal.returns
returns c =
    item_written c.args.image.now c.write_length.new.image c.put_at.new.image c.write_length-2.new.image c.args.at c.args.content.now
    c.requires.room c.write_length.ensures c.put_at.ensures c.write_length-2.ensures
    ∙ ap (written c.args.image.now c.args.at) (sym (packed-item_with c.args.content.now))
