use Rattle.std.proofs.Common.{◌≡◌, length, refl, arith}
use Rattle.io_images.proofs.Listed.{listed-is}
use Rattle.io_images.proofs.ReadsBack.{ccw-reads_back}
use Rattle.io_images.proofs.ccw.Ccw.write.Goals as goal

pub returns-clause-image : goal.returns-clause-image
returns-clause-image c =
    let len : length c.args.image.now ≡ 8 = omega arith in
    let whole = listed-is 8 c.args.image.now len in
    rw (c.write_u16.ensures, c.write_u24.ensures, c.get.ensures.value, ← whole) refl

pub returns-clause-reads_back : goal.returns-clause-reads_back
returns-clause-reads_back c =
    rw (returns-clause-image c) (ccw-reads_back c.args.self.now c.args.image.now (omega arith) (omega arith))
