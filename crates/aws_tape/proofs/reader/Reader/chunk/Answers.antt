use Rattle.std.proofs.Common.{◌≡◌, length, sym, ◌∙◌, arith}
use Rattle.image_source.proofs.Sources.{whole_read}
use Rattle.aws_tape.proofs.Chunks.{chunk_read, chunk_fails, header_fails}
use Rattle.aws_tape.proofs.reader.Reader.chunk.Goals as goal

pub returns-in-Err-clause-read : goal.returns-in-Err-clause-read
returns-in-Err-clause-read g c =
    let len : length c.fill.new.buffer ≡ 6 = omega arith in
    header_fails c.args.self.now c.args.self.now _ _ c.fill.new.buffer c.in-Err.fault len
    (whole_read _ _ c.fill.new.buffer c.in-Ok.count c.in-Ok.ensures (omega (arith, len)))
    (sym c.header.ensures.header ∙ c.in-Err.is)

pub returns-in-Ok-data-clause-read : goal.returns-in-Ok-data-clause-read
returns-in-Ok-data-clause-read g c =
    let len : length c.fill.new.buffer ≡ 6 = omega arith in
    chunk_read c.args.self.now c.data.new.self _ _ _ c.fill.new.buffer c.in-Ok-header.header c.in-Ok-data.field-0 len
    (whole_read _ _ c.fill.new.buffer c.in-Ok.count c.in-Ok.ensures (omega (arith, len)))
    (sym c.header.ensures.header ∙ c.in-Ok-header.is) c.in-Ok-data.ensures

pub returns-in-Err-data-clause-read : goal.returns-in-Err-data-clause-read
returns-in-Err-data-clause-read g c =
    let len : length c.fill.new.buffer ≡ 6 = omega arith in
    chunk_fails c.args.self.now c.data.new.self _ _ _ c.fill.new.buffer c.in-Ok-header.header c.in-Err-data.fault len
    (whole_read _ _ c.fill.new.buffer c.in-Ok.count c.in-Ok.ensures (omega (arith, len)))
    (sym c.header.ensures.header ∙ c.in-Ok-header.is) c.in-Err-data.ensures
