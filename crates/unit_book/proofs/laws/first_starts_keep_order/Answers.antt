use Rattle.unit_book.proofs.OrderLaws.{starts-in-order}
use Rattle.unit_book.proofs.laws.first_starts_keep_order.Goals as goal

pub returns : goal.returns
returns g c = starts-in-order g.D.Device.meaning
