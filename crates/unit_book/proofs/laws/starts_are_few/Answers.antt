use Rattle.unit_book.proofs.NameLaws.{few-starts}
use Rattle.unit_book.proofs.laws.starts_are_few.Goals as goal

pub returns : goal.returns
returns g c = few-starts g.D.Device.meaning
