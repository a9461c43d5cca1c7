use Rattle.std.proofs.Common.{◌≤◌, arith}
use Rattle.aws_tape.proofs.Chunks.{left_chunk, left_end, left_fault}
use Rattle.aws_tape.proofs.loading.load_chunks.Goals as goal

pub returns-in-Ok-None : goal.returns-in-Ok-None
returns-in-Ok-None g c =
    left_end _ c.loop.reader c.chunk.new.self _ _ _ c.loop.offset c.ended.result c.loop.invariant.left
    (rw c.in-Ok-None.field-0-is at (c.in-Ok-None.ensures {u = tt}).read) c.ended.ensures

pub returns-in-Err : goal.returns-in-Err
returns-in-Err g c =
    left_fault _ c.loop.reader c.chunk.new.self _ _ _ c.loop.offset c.in-Err.fault c.loop.invariant.left c.in-Err.ensures.read

pub loop-preserved : goal.loop-preserved
loop-preserved g c =
    let e = c.in-Ok-Some.ensures {u = tt} in
    record {
      left = left_chunk _ c.loop.reader c.chunk.new.self _ _ _ c.loop.offset c.in-Ok-Some.len c.loop.invariant.left
          (rw c.in-Ok-Some.field-0-is at e.read);
      small =
          let short : c.in-Ok-Some.len ≤ 65535 = rw c.in-Ok-Some.field-0-is at e.short in
          omega (arith, c.loop.invariant.small, short);
    }
