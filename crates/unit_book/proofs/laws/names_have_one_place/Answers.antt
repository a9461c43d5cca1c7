use Rattle.unit_book.proofs.NameLaws.{one-place}
use Rattle.unit_book.proofs.laws.names_have_one_place.Goals as goal

pub returns : goal.returns
returns g c = one-place g.D.Device.meaning
