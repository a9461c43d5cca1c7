use Rattle.std.proofs.Common.{◌≡◌, length, refl, arith}
use Rattle.io_images.proofs.Listed.{listed-is}
use Rattle.io_images.proofs.ReadsBack.{ecb-reads_back}
use Rattle.io_images.proofs.ecb.Ecb.write.Goals as goal

pub returns-clause-image : goal.returns-clause-image
returns-clause-image c =
    let len : length c.args.image.now ≡ 4 = omega arith in
    let whole = listed-is 4 c.args.image.now len in
    rw (c.write_u32.ensures, ← whole) refl

pub returns-clause-reads_back : goal.returns-clause-reads_back
returns-clause-reads_back c =
    rw (returns-clause-image c) (ecb-reads_back c.args.self.now (omega arith))
