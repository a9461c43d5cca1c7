use Rattle.std.proofs.Common.{◌≡◌, length, refl, arith}
use Rattle.io_images.proofs.Listed.{listed-is}
use Rattle.io_images.proofs.ReadsBack.{extent-reads_back}
use Rattle.io_images.proofs.extent.Extent.write.Goals as goal

pub returns-clause-image : goal.returns-clause-image
returns-clause-image c =
    let len : length c.args.image.now ≡ 16 = omega arith in
    let whole = listed-is 16 c.args.image.now len in
    rw (
      c.write_u16-6.ensures,
      c.write_u16-5.ensures,
      c.write_u16-4.ensures,
      c.write_u16-3.ensures,
      c.write_u16-2.ensures,
      c.write_u16.ensures,
      c.write_u24.ensures,
      c.get.ensures.value,
      ← whole,
    ) refl

pub returns-clause-reads_back : goal.returns-clause-reads_back
returns-clause-reads_back c =
    rw (returns-clause-image c) (extent-reads_back c.args.self.now (record {
      unit_block = omega arith;
      bin = omega arith;
      start_cylinder = omega arith;
      start_head = omega arith;
      end_cylinder = omega arith;
      end_head = omega arith;
      tracks = omega arith;
    }))
