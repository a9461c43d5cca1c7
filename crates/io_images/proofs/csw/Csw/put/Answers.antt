use Rattle.std.proofs.Common.{arith, drop}
use Rattle.std.proofs.lemmas.Grind.{common_steps}
use Rattle.io_images.proofs.ReadsBack.{csw-reads_back}
use Rattle.io_images.proofs.csw.Csw.put.Goals as goal

pub returns-clause-image : goal.returns-clause-image
returns-clause-image c = grind (arith, common_steps)

pub returns-clause-reads_back : goal.returns-clause-reads_back
returns-clause-reads_back c =
    rw (returns-clause-image c) (csw-reads_back c.args.self.now c.args.image.now (drop 8 c.args.image.now) (omega arith) (omega arith))
