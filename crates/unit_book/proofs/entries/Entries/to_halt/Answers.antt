use Rattle.unit_book.proofs.Controls.{quiesces}
use Rattle.unit_book.proofs.entries.Entries.to_halt.Goals as goal

pub returns-in-Quiesce : goal.returns-in-Quiesce
returns-in-Quiesce g c =
    let b = c.args.self.now in
    rw c.in-Quiesce.is (quiesces g.D.Device.meaning b.mounted c.args.scope b.trace)
