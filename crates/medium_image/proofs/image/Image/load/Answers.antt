use Rattle.std.proofs.Common.{◌≡◌, length, Ok, Err, sym, ◌∙◌, arith}
use Rattle.medium_image.proofs.Loads.{are_of, fails_disk, loads_disk, loads_tape}
use Rattle.medium_image.proofs.image.Image.load.Goals as goal

pub returns-in-Ok-load : goal.returns-in-Ok-load
returns-in-Ok-load g c =
    let len : length c.fill.new.buffer ≡ 4 = omega arith in (
      are_of _ _ c.fill.new.buffer c.in-Ok.count _ len c.in-Ok.ensures (sym c.is_disk.ensures ∙ c.if-is_disk.true),
      loads_disk _ _ _ _ c.fill.new.buffer c.in-Ok.count c.in-Ok-load.image c.in-Ok.ensures c.chain-whole.ensures.bytes
          c.in-Ok-load.ensures.loaded,
    )

pub returns-in-Err : goal.returns-in-Err
returns-in-Err g c =
    let len : length c.fill.new.buffer ≡ 4 = omega arith in (
      are_of _ _ c.fill.new.buffer c.in-Ok.count _ len c.in-Ok.ensures (sym c.is_disk.ensures ∙ c.if-is_disk.true),
      fails_disk _ _ _ _ c.fill.new.buffer c.in-Ok.count c.in-Err.error c.in-Ok.ensures c.chain-whole.ensures.bytes
          c.in-Err.ensures.fault,
    )

pub returns-in-Ok-load-2 : goal.returns-in-Ok-load-2
returns-in-Ok-load-2 g c =
    let len : length c.fill.new.buffer ≡ 4 = omega arith in (
      are_of _ _ c.fill.new.buffer c.in-Ok.count _ len c.in-Ok.ensures (sym c.is_disk.ensures ∙ c.if-is_disk.false),
      loads_tape _ _ _ c.fill.new.buffer c.in-Ok.count (Ok c.in-Ok-load-2.image) c.in-Ok.ensures c.chain-whole.ensures.bytes
          c.in-Ok-load-2.ensures,
    )

pub returns-in-Err-load : goal.returns-in-Err-load
returns-in-Err-load g c =
    let len : length c.fill.new.buffer ≡ 4 = omega arith in (
      are_of _ _ c.fill.new.buffer c.in-Ok.count _ len c.in-Ok.ensures (sym c.is_disk.ensures ∙ c.if-is_disk.false),
      loads_tape _ _ _ c.fill.new.buffer c.in-Ok.count (Err c.in-Err-load.error) c.in-Ok.ensures c.chain-whole.ensures.bytes
          c.in-Err-load.ensures,
    )
