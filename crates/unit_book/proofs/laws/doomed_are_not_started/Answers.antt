use Rattle.unit_book.proofs.DoomLaws.{no-doomed-starts}
use Rattle.unit_book.proofs.laws.doomed_are_not_started.Goals as goal

pub returns : goal.returns
returns g c = no-doomed-starts g.D.Device.meaning
