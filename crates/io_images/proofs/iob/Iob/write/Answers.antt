use Rattle.std.proofs.Common.{◌≡◌, length, refl, arith}
use Rattle.io_images.proofs.Listed.{listed-is}
use Rattle.io_images.proofs.ReadsBack.{iob-reads_back}
use Rattle.io_images.proofs.iob.Iob.write.Goals as goal

pub returns-clause-image : goal.returns-clause-image
returns-clause-image c =
    let len : length c.args.image.now ≡ 40 = omega arith in
    let whole = listed-is 40 c.args.image.now len in
    rw (
      c.put-2.ensures.image,
      c.write_u24-3.ensures,
      c.get-3.ensures.value,
      c.write_u24-2.ensures,
      c.get-2.ensures.value,
      c.put.ensures.image,
      c.write_u24.ensures,
      c.get.ensures.value,
      c.write_u16.ensures,
      c.flag_byte.ensures,
      ← whole,
    ) refl

pub returns-clause-reads_back : goal.returns-clause-reads_back
returns-clause-reads_back c =
    rw (returns-clause-image c) (iob-reads_back c.args.self.now c.args.image.now (omega arith) (record {
      sense = omega arith;
      ecb = omega arith;
      csw = rw c.put.ensures.image at c.put.ensures.reads_back;
      start = omega arith;
      dcb = omega arith;
      seek = rw c.put-2.ensures.image at c.put-2.ensures.reads_back;
    }))
